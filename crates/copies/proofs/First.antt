-- The first number for which something does not hold: step by step at the numbers that a loop has, and what it says.
use Rattle.std.specs.Prelude.{◌≡◌, ◌≢◌, Bool, false, cond, length, get_or}
use Rattle.std.proofs.Math.Path.{refl}
use Rattle.std.proofs.Common.{sym, ap, ◌∙◌, true≢false, ext_get_or, eq-eqb, ne_eqb, eqb-true}
use Rattle.std.proofs.Math.Bool.{true}
use Prim.Native.Nat.{ℕ, zero, suc, ◌+◌, ◌-◌, ◌≤◌, ◌<◌, zero-le}
use Rattle.std.proofs.Math.Nat.{le_refl}
use Rattle.std.proofs.Math.Decide.{dec_lt}
use Rattle.std.proofs.Math.Numerals.{add-one}
use native.Mathlib.Omega.{arith}
use Rattle.lists.specs.Bytes.{Bytes, same}
use Rattle.lists.specs.Same.{same_not}
use Rattle.copies.specs.Comparing.{first_not, same_byte}

one_left : (n i : ℕ) → i < n → n - i ≡ suc (n - (i + 1))
one_left n i h = omega arith

none_left : (n i : ℕ) → n ≤ i → n - i ≡ 0
none_left n i h = omega arith

module _ (p : ℕ → Bool) (i n : ℕ) where
  -- Past a number for which p holds the search goes on.
  pub first_step : i < n → p i ≡ true → first_not p i (n - i) ≡ first_not p (i + 1) (n - (i + 1))
  unfolding first_not
  first_step h e = rw (one_left n i h, e, add-one i)

  -- One for which it does not hold is the first.
  pub first_stop : i < n → p i ≡ false → first_not p i (n - i) ≡ i
  unfolding first_not
  first_stop h e = rw (one_left n i h, e)

  -- Where no number is left, the search ends there.
  pub first_end : n ≤ i → first_not p i (n - i) ≡ i
  unfolding first_not
  first_end h = rw (none_left n i h)

-- what the first number x from i up to n says: p holds before it, and not for it unless it is the end
pub record First (p : ℕ → Bool) (i n x : ℕ) : Type 0 where
  pub start : i ≤ x
  pub most : x ≤ n
  pub before : (m : ℕ) → i ≤ m → m < x → p m ≡ true
  pub there : x < n → p x ≡ false

module _ (p : ℕ → Bool) where
  -- The number that is found is the first.
  pub first_is : (k i : ℕ) → First p i (i + k) (first_not p i k)
  unfolding first_not
  first_is zero i = record { start = le_refl i; most = omega arith; before = λ m g h. absurd (omega arith); there = λ h. absurd (omega arith) }
  first_is (suc k) i = go (p i) refl (first_is k (suc i))
    where
      within : First p (suc i) (suc i + k) (first_not p (suc i) k) → p i ≡ true → (m : ℕ) → i ≤ m → m < first_not p (suc i) k → Dec (i < m) → p m ≡ true
      within f e m g h (yes l) = f.before m l h
      within f e m g h (no l) = let q : m ≡ i = omega arith in rw q e

      go : (b : Bool) → p i ≡ b → First p (suc i) (suc i + k) (first_not p (suc i) k) → First p i (i + suc k) (cond b (first_not p (suc i) k) i)
      go true e f =
          record { start = omega (arith, f.start); most = omega (arith, f.most); before = λ m g h. within f e m g h (dec_lt i m); there = λ h. f.there (omega arith) }
      go false e f = record { start = le_refl i; most = omega arith; before = λ m g h. absurd (omega arith); there = λ h. e }

  -- There is one first number.
  pub one_first : (i n x y : ℕ) → First p i n x → First p i n y → x ≡ y
  one_first i n x y f g = go (dec_lt x y) (dec_lt y x)
    where
      go : Dec (x < y) → Dec (y < x) → x ≡ y
      go (yes h) d = absurd (true≢false (sym (g.before x f.start h) ∙ f.there (omega (arith, g.most))))
      go (no h) (yes l) = absurd (true≢false (sym (f.before y g.start l) ∙ g.there (omega (arith, f.most))))
      go (no h) (no l) = omega arith

-- ---- two byte strings

module _ (x y : Bytes) where
  -- Bytes that are equal are the same,
  pub byte_same : (b : ℕ) → get_or x b 0 ≡ get_or y b 0 → same_byte x y b ≡ true
  byte_same b e = eq-eqb (get_or x b 0) (get_or y b 0) e

  -- others are not, and then the strings are not;
  pub byte_other : (b : ℕ) → get_or x b 0 ≢ get_or y b 0 → same_byte x y b ≡ false
  byte_other b n = ne_eqb (get_or x b 0) (get_or y b 0) n

  pub string_other : (b : ℕ) → get_or x b 0 ≢ get_or y b 0 → same x y ≡ false
  string_other b n = same_not x y (λ e. n (ap (λ (z : Bytes). get_or z b 0) e))

  -- and where no byte of k differs, strings of k bytes are the same.
  pub string_same : (k : ℕ) → length x ≡ k → length y ≡ k → first_not (same_byte x y) 0 k ≡ k → x ≡ y
  string_same k lx ly e =
      let f = first_is (same_byte x y) k 0 in
      ext_get_or 0 x y (lx ∙ sym ly) (λ i h. eqb-true (get_or x i 0) (get_or y i 0) (f.before i zero-le (omega (arith, lx, e))))
