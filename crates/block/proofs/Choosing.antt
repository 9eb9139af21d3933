-- FIPS's `ch` and `maj` by fewer operations, bit by bit, and its T1 as a sum in another order.
use Rattle.std.proofs.Common.{◌≡◌, ℕ, zero, suc, ◌+◌, ◌-◌, ◌/◌, ◌%◌, ◌^◌, ◌<◌, refl, ap, pow-suc, arith}
use native.Mathlib.Nat.{mod-add-mod}
use lib.Arith.{lt-one}
use lib.Bits.{bit_and, bit_xor, and_shr, xor_shr, and_mod, xor_mod}

-- what holds of 0 and of 1 holds of a bit, of two and of three
bit : (P : ℕ → Type 0) → P 0 → P 1 → (x : ℕ) → P (x % 2)
bit P a b x = at (x % 2) (omega arith)
  where
    at : (r : ℕ) → r < 2 → P r
    at zero h = a
    at (suc zero) h = b
    at (suc (suc r)) h = absurd (omega arith)

bit2 : (P : ℕ → ℕ → Type 0) → P 0 0 → P 0 1 → P 1 0 → P 1 1 → (x y : ℕ) → P (x % 2) (y % 2)
bit2 P a b c d x y = bit (λ p. P p (y % 2)) (bit (P 0) a b y) (bit (P 1) c d y) x

bit3 : (P : ℕ → ℕ → ℕ → Type 0) → P 0 0 0 → P 0 0 1 → P 0 1 0 → P 0 1 1 → P 1 0 0 → P 1 0 1 → P 1 1 0 → P 1 1 1 → (x y z : ℕ) → P (x % 2) (y % 2) (z % 2)
bit3 P a b c d e f g h x y z = bit (λ p. P p (y % 2) (z % 2)) (bit2 (P 0) a b c d y z) (bit2 (P 1) e f g h y z) x

-- the last bit goes apart from the others, and the two make the number
and_half : (a b : ℕ) → bit_and a b / 2 ≡ bit_and (a / 2) (b / 2)
and_half a b = and_shr a b 1

xor_half : (a b : ℕ) → bit_xor a b / 2 ≡ bit_xor (a / 2) (b / 2)
xor_half a b = xor_shr a b 1

and_last : (a b : ℕ) → bit_and a b % 2 ≡ bit_and (a % 2) (b % 2)
and_last a b = and_mod a b 1

xor_last : (a b : ℕ) → bit_xor a b % 2 ≡ bit_xor (a % 2) (b % 2)
xor_last a b = xor_mod a b 1

halves : {a b : ℕ} → a / 2 ≡ b / 2 → a % 2 ≡ b % 2 → a ≡ b
halves p q = omega arith

half_below : (k : ℕ) {a : ℕ} → a < 2 ^ suc k → a / 2 < 2 ^ k
half_below k h = omega (arith, pow-suc 2 k)

pub choose : (k x y z : ℕ) → x < 2 ^ k → y < 2 ^ k → z < 2 ^ k → bit_xor (bit_and (bit_xor y z) x) z ≡ bit_xor (bit_and x y) (bit_and (2 ^ k - 1 - x) z)
choose zero x y z hx hy hz = rw (lt-one hx, lt-one hy, lt-one hz)
choose (suc k) x y z hx hy hz =
    let not_half : (2 ^ suc k - 1 - x) / 2 ≡ 2 ^ k - 1 - x / 2 = omega (arith, pow-suc 2 k) in
    let not_last : (2 ^ suc k - 1 - x) % 2 ≡ 1 - x % 2 = omega (arith, pow-suc 2 k) in
    halves
    (simp (xor_half, and_half, not_half) (choose k (x / 2) (y / 2) (z / 2) (half_below k hx) (half_below k hy) (half_below k hz)))
    (simp (xor_last, and_last, not_last) (bit3 (λ (p q r : ℕ). bit_xor (bit_and (bit_xor q r) p) r ≡ bit_xor (bit_and p q) (bit_and (1 - p) r)) refl refl refl refl refl refl refl refl x y z))

pub most : (k x y z : ℕ) → x < 2 ^ k → y < 2 ^ k → z < 2 ^ k → bit_xor (bit_and (bit_xor x y) (bit_xor y z)) y ≡ bit_xor (bit_xor (bit_and x y) (bit_and x z)) (bit_and y z)
most zero x y z hx hy hz = rw (lt-one hx, lt-one hy)
most (suc k) x y z hx hy hz =
    halves
    (simp (xor_half, and_half) (most k (x / 2) (y / 2) (z / 2) (half_below k hx) (half_below k hy) (half_below k hz)))
    (simp (xor_last, and_last) (bit3 (λ (p q r : ℕ). bit_xor (bit_and (bit_xor p q) (bit_xor q r)) q ≡ bit_xor (bit_xor (bit_and p q) (bit_and p r)) (bit_and q r)) refl refl refl refl refl refl refl refl x y z))

-- a sum of words is the same in any order
pub reordered : (h s c k w : ℕ) → ((((k + w) % 2 ^ 32 + h) % 2 ^ 32 + c) % 2 ^ 32 + s) % 2 ^ 32 ≡ ((((h + s) % 2 ^ 32 + c) % 2 ^ 32 + k) % 2 ^ 32 + w) % 2 ^ 32
reordered h s c k w = simp mod-add-mod (ap (λ n. n % 2 ^ 32) (omega arith))
