-- The numbers that a store has a proof for: what a caller knows once they are found to fit the count, and what the refusals say.
use mathlib.Core.Path.{◌≡◌, sym, ◌∙◌}
use mathlib.Core.Bool.{Bool, true, false, cond, ◌&&◌, and-eq-true_iff}
use Prim.Native.Nat.{ℕ, ◌≤◌}
use native.Mathlib.Nat.{le_trans}
use native.Mathlib.Omega.{arith}
use lib.Dec.{leb}
use lib.ListN.{length}
use borrow.Author.Tests.{leb-true, le-leb}
use Rattle.lists.specs.Bytes.{Bytes}
use Rattle.rules.specs.Numbers.{v1, limit}
use Rattle.rules.specs.Store.{place, count_of, damaged}
use Rattle.rules.proofs.Places.{place_mono}
use Rattle.path.specs.declared.Length.{Length}
use Rattle.store.proofs.Laws.{InOrder}

-- whether a log of m elements goes from i to n
abbrev pub covered : ℕ → ℕ → ℕ → Bool
covered m i n = leb i n && leb n m

-- what is known where a store has a proof from i to n
pub record Covers (s : Bytes) (i n : ℕ) : Type 0 where
  pub sound : damaged v1 s ≡ false
  pub test : covered (count_of v1 s) i n ≡ true
  pub up : i ≤ n
  pub few : n ≤ limit v1
  pub fits : (j : ℕ) → j ≤ n → place v1 j ≤ length s

module _ (s : Bytes) (m : Length) (known : InOrder s m) (i n : ℕ) (r : Bool) (told : r ≡ covered m.0 i n) where
  pub covers : r ≡ true → Covers s i n
  covers h =
      let t : covered m.0 i n ≡ true = sym told ∙ h in
      let a = (and-eq-true_iff (leb i n) (leb n m.0)).0 t in
      let high = leb-true n m.0 a.1 in record {
        sound = known.sound;
        test = rw known.counted t;
        up = leb-true i n a.0;
        few = le_trans high known.few;
        fits = λ j g. le_trans (place_mono v1 j m.0 (le_trans g high)) known.fits;
      }

  pub uncovered : r ≡ false → covered (count_of v1 s) i n ≡ false
  uncovered h = rw known.counted (sym told ∙ h)

-- The length of a path is what is told, where the numbers fit.
pub size_told : {b : Bool} {m t : ℕ} → m ≡ cond b t 0 → b ≡ true → m ≡ t
size_told e h = rw h at e

-- ---- an element that is asked for is 1 or more

pub start_unasked : (i : ℕ) (b : Bool) → i ≡ 0 → (leb 1 i && b) ≡ false
start_unasked i b e = rw e

pub element_asked : (i : ℕ) (b t : Bool) → (i ≡ 0 → ⊥) → b ≡ t → (leb 1 i && b) ≡ t
element_asked i b t h e = rw (le-leb 1 i (omega arith)) e
