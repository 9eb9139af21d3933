-- What the lowest bit of q, a number in steps of a power of two, says of q and of the next one.
use Rattle.std.specs.Prelude.{◌≡◌, refl, ◌≢◌, ◌⊎◌, Bool, true, false, ℕ, suc, ◌*◌, ◌/◌, ◌%◌, ◌^◌}
use Rattle.std.proofs.Common.{sym, ap, ◌∙◌, inl, inr, pow-suc, arith, eq-eqb, ne_eqb, eqb-true}
use Rattle.std.proofs.Math.Nat.{pow-succ', div-div-eq-div-mul}
use Rattle.std.proofs.lemmas.Bool.{eqb-false}
use Rattle.rules.specs.Held.{odd}

-- n in steps of 2 ^ suc c is half of n in steps of 2 ^ c.
pub halve : (n c : ℕ) → n / 2 ^ suc c ≡ n / 2 ^ c / 2
halve n c = ap (λ (x : ℕ). n / x) (pow-suc 2 c) ∙ sym (div-div-eq-div-mul n (2 ^ c) 2)

-- It is also the half of n, in steps of 2 ^ c.
pub half_first : (n c : ℕ) → n / 2 ^ suc c ≡ n / 2 / 2 ^ c
half_first n c = ap (λ (x : ℕ). n / x) (pow-succ' 2 c) ∙ sym (div-div-eq-div-mul n 2 (2 ^ c))

-- Steps of 2 ^ suc c are half as many as those of 2 ^ c.
pub half_pow : (h c q : ℕ) → q ≡ h * 2 → h * 2 ^ suc c ≡ q * 2 ^ c
half_pow h c q e = rw (e, pow-suc) (omega arith)

-- what is known of an odd q and the number behind it
pub record Odd (q : ℕ) : Type 0 where
  pub here : odd q ≡ true
  pub next : odd (suc q) ≡ false
  pub half : suc q / 2 ≡ suc (q / 2)
  pub twice : suc q ≡ suc (q / 2) * 2

-- and of an even one
pub record Even (q : ℕ) : Type 0 where
  pub here : odd q ≡ false
  pub next : odd (suc q) ≡ true
  pub half : suc q / 2 ≡ q / 2
  pub twice : q ≡ q / 2 * 2

-- An odd q and the even number behind it.
pub is_odd : (q : ℕ) → odd q ≡ true → Odd q
is_odd q e = let h = eqb-true (q % 2) 1 e in record { here = e; next = ne_eqb (suc q % 2) 1 (λ g. omega arith); half = omega arith; twice = omega arith }

-- An even q and the odd number behind it.
pub is_even : (q : ℕ) → odd q ≡ false → Even q
is_even q e = let h : q % 2 ≢ 1 = eqb-false (q % 2) 1 e in record { here = e; next = eq-eqb (suc q % 2) 1 (omega arith); half = omega arith; twice = omega arith }

-- Every q is odd or even.
pub parity : (q : ℕ) → Odd q ⊎ Even q
parity q = go (odd q) refl
  where
    go : (b : Bool) → odd q ≡ b → Odd q ⊎ Even q
    go true e = inl (is_odd q e)
    go false e = inr (is_even q e)
