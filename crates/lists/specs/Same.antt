-- What the test `same` says of two byte strings, and its steps along them.
use Rattle.std.specs.Prelude.{◌≡◌, refl, ◌≢◌, Bool, true, false, ◌&&◌, [], ◌∷◌, ℕ, zero, suc, ◌+◌, ◌<◌, eqb, length, get_or, drop}
use Rattle.std.proofs.Common.{sym, ap, ap₂, ◌∙◌, true≢false, arith, drop-cons, eqb-true, eq-eqb, ne_eqb}
use Rattle.std.proofs.lemmas.Bool.{false≢true}
use Rattle.std.proofs.Math.Bool.{and-eq-true_iff}
use Rattle.std.specs.Int.Bits.{bit_or, bit_xor, or_zero_r, or_add_and, xor_self, xor_add_and}
use Rattle.std.proofs.lemmas.Nat.{and_le_l, and_le_r}
use Rattle.std.proofs.Math.Seq.{drop-length}
use Rattle.lists.specs.Bytes.{Bytes, same}

pub same_true : (a b : Bytes) → same a b ≡ true → a ≡ b
same_true [] [] e = refl
same_true [] (y ∷ ys) e = absurd (false≢true e)
same_true (x ∷ xs) [] e = absurd (false≢true e)
same_true (x ∷ xs) (y ∷ ys) e =
    let h = (and-eq-true_iff (eqb x y) (same xs ys)).0 e in
    ap₂ {A = ℕ} {B = Bytes} {C = Bytes} (λ a l. a ∷ l) (eqb-true x y h.0) (same_true xs ys h.1)

pub same_refl : (a : Bytes) → same a a ≡ true
same_refl [] = refl
same_refl (x ∷ xs) = (and-eq-true_iff (eqb x x) (same xs xs)).1 (eq-eqb x x refl, same_refl xs)

pub same_eq : (a b : Bytes) → a ≡ b → same a b ≡ true
same_eq a b e = rw e (same_refl b)

pub same_false : (a b : Bytes) → same a b ≡ false → a ≢ b
same_false a b f e = true≢false (sym (same_eq a b e) ∙ f)

pub same_not : (a b : Bytes) → a ≢ b → same a b ≡ false
same_not a b n = go (same a b) refl
  where
    go : (t : Bool) → same a b ≡ t → t ≡ false
    go true e = absurd (n (same_true a b e))
    go false e = refl

pub same_swap : (a b : Bytes) → same a b ≡ same b a
same_swap a b = go (same a b) refl
  where
    go : (t : Bool) → same a b ≡ t → t ≡ same b a
    go true e = sym (same_eq b a (sym (same_true a b e)))
    go false e = sym (same_not b a (λ f. same_false a b e (sym f)))

pub same_lengths : (a b : Bytes) → length a ≢ length b → same a b ≡ false
same_lengths a b n = same_not a b (λ e. n (ap length e))

-- bits that are put together are zero exactly if both numbers are
or_zero : (s x : ℕ) (r : Bool) → (eqb s 0 && (eqb x 0 && r)) ≡ (eqb (bit_or s x) 0 && r)
or_zero s zero r = rw (or_zero_r s)
or_zero s (suc x) r =
    rw (ne_eqb (suc x) 0 (λ e. omega arith), ne_eqb (bit_or s (suc x)) 0 (λ e. omega (arith, e, or_add_and s (suc x), and_le_l s (suc x)))) (go (eqb s 0))
  where
    go : (b : Bool) → (b && false) ≡ false
    go true = refl
    go false = refl

-- two numbers that differ in no bit are the same
xor_zero : (x y : ℕ) → eqb x y ≡ eqb (bit_xor x y) 0
xor_zero x y = go (eqb x y) refl
  where
    go : (t : Bool) → eqb x y ≡ t → t ≡ eqb (bit_xor x y) 0
    go true e = sym (eq-eqb (bit_xor x y) 0 (rw (eqb-true x y e) (xor_self y)))
    go false e =
        sym (ne_eqb (bit_xor x y) 0
        (λ z. true≢false (sym (eq-eqb x y (omega (arith, z, xor_add_and x y, and_le_l x y, and_le_r x y))) ∙ e)))

-- what was put together so far, s, and the bytes from index i on; and the end
module _ (a b : Bytes) (i : ℕ) where
  pub same_turn : (s : ℕ) → i < length a → i < length b
      → (eqb s 0 && same (drop i a) (drop i b)) ≡ (eqb (bit_or s (bit_xor (get_or a i 0) (get_or b i 0))) 0 && same (drop (i + 1) a) (drop (i + 1) b))
  same_turn s h k =
      let f : i + 1 ≡ suc i = omega arith in
      rw (f, drop-cons a i 0 h, drop-cons b i 0 k, xor_zero (get_or a i 0) (get_or b i 0)) (or_zero s (bit_xor (get_or a i 0) (get_or b i 0)) _)

  pub same_end : i ≡ length a → i ≡ length b → same (drop i a) (drop i b) ≡ true
  same_end h k = same_eq (drop i a) (drop i b) (ap (λ (n : ℕ). drop n a) h ∙ drop-length a ∙ sym (ap (λ (n : ℕ). drop n b) k ∙ drop-length b))

  pub same_told : (s : ℕ) → i ≡ length a → i ≡ length b → (eqb s 0 && same (drop i a) (drop i b)) ≡ eqb s 0
  same_told s h k = rw (same_end h k) (go (eqb s 0))
    where
      go : (t : Bool) → (t && true) ≡ t
      go true = refl
      go false = refl
