-- The search for the first handle with bit 1, and the two sides of a lent list of handles.
use mathlib.Core.Path.{◌≡◌, refl, sym, ap, ◌∙◌}
use mathlib.Core.Bool.{Bool, true, false, cond}
use mathlib.Core.List.{List, [], ◌∷◌}
use Prim.Native.Nat.{ℕ, suc, ◌+◌, ◌*◌, ◌/◌, ◌%◌, ◌≤◌, ◌<◌}
use native.Mathlib.Omega.{arith}
use native.Mathlib.Numerals.{add-one}
use lib.ListN.{length, take, drop, length-drop}
use lib.Seq.{length-take-le}
use Rattle.std.proofs.Math.Decide.{dec_lt}
use Rattle.std.specs.Prelude.{Option, Some, None, not, unwrap_or, ltb}
use Rattle.std.specs.List.{position_or_len}
use borrow.Author.Tests.{lt-ltb, le-ltb}
use Rattle.lists.specs.Bytes.{Bytes}
use Rattle.dictionary.specs.Handles.{turn, side, rows_of, leading}
use Rattle.dictionary.proofs.Rows.{rows_take, rows_drop, rows_length}
use Rattle.dictionary.proofs.Sides.{digit, side_near, side_rises, split}
use Rattle.trie.specs.Tidy.{Tidy, Sided}

-- ---- the search for the first handle with bit 1

leading_is : (e : ℕ) (hs : List Bytes) → position_or_len (turn e) hs ≡ leading e hs
unfolding leading
leading_is e [] = refl
leading_is e (h ∷ hs) = go (turn e h) (leading_is e hs)
  where
    go : (b : Bool) → position_or_len (turn e) hs ≡ leading e hs → cond (not b) (1 + position_or_len (turn e) hs) 0 ≡ cond b 0 (suc (leading e hs))
    go true l = refl
    go false l = omega arith

pub leading_most : (e : ℕ) (hs : List Bytes) → leading e hs ≤ length hs
unfolding leading
leading_most e [] = omega arith
leading_most e (h ∷ hs) = go (turn e h) (leading_most e hs)
  where
    go : (b : Bool) → leading e hs ≤ length hs → cond b 0 (suc (leading e hs)) ≤ suc (length hs)
    go true l = omega arith
    go false l = omega arith

-- where the first one stands, or how many there are
pub first_one : (e : ℕ) (hs : List Bytes) (r : Option ℕ) → r ≡ cond (ltb (position_or_len (turn e) hs) (length hs)) (Some (position_or_len (turn e) hs)) None
    → unwrap_or r (length hs) ≡ leading e hs
first_one e hs r h = rw (h, leading_is e hs) (go (dec_lt (leading e hs) (length hs)))
  where
    go : Dec (leading e hs < length hs) → unwrap_or (cond (ltb (leading e hs) (length hs)) (Some (leading e hs)) None) (length hs) ≡ leading e hs
    go (yes l) = rw (lt-ltb (leading e hs) (length hs) l)
    go (no l) = rw (le-ltb (leading e hs) (length hs) (omega arith)) (omega (arith, leading_most e hs))

-- ---- the sides

module _ (s : Bytes) (e cut : ℕ) (t : Tidy (e + 1) s) (c : cut ≡ 32 * leading e (rows_of s)) where
  near' : Tidy (suc e) s
  near' = rw (add-one e) at t

  pub cut_within : cut ≤ length s
  cut_within = omega (arith, leading_most e (rows_of s), rows_length (length s / 32) s)

  tidied : (b : Bool) (r : Bytes) → length r % 32 ≡ 0 → rows_of r ≡ side b e (rows_of s) → Sided b e s r
  tidied b r w h = record {
    rows = h;
    tidy = record {
      whole = w;
      before = near'.before * 2 + digit b;
      near = rw h (side_near b e near'.before (rows_of s) near'.near);
      rising = rw h (side_rises b e 0 (rows_of s) near'.rising);
    };
  }

  pub ones_side : Sided true e s (drop cut s)
  ones_side =
      let d : drop cut s ≡ drop (32 * leading e (rows_of s)) s = ap (λ (n : ℕ). drop n s) c in
      tidied true (drop cut s) (let l = length-drop cut s in let w = t.whole in let m = cut_within in omega arith)
      (ap rows_of d ∙ rows_drop (leading e (rows_of s)) s ∙ sym (split e near'.before 0 (rows_of s) near'.near near'.rising).ones_behind)

  pub zeros_side : Sided false e s (take cut s)
  zeros_side =
      let d : take cut s ≡ take (32 * leading e (rows_of s)) s = ap (λ (n : ℕ). take n s) c in
      let m = cut_within in
      tidied false (take cut s) (let l = length-take-le cut s m in omega arith)
      (ap rows_of d ∙ rows_take (leading e (rows_of s)) s (omega arith) ∙ sym (split e near'.before 0 (rows_of s) near'.near near'.rising).zeros_first)
