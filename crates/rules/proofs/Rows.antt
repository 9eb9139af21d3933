-- The rows of a basis under a hop: counted in steps of the level hopped, a hop adds one, and the rows carry as its binary digits do.
use Rattle.std.specs.Prelude.{◌≡◌, refl, ◌⊎◌, Bool, true, false, cond, ◌&&◌, ◌||◌, List, [], ◌∷◌, ◌++◌, ℕ, zero, suc, ◌+◌, ◌-◌, ◌*◌, ◌/◌, ◌%◌, ◌^◌, ◌≤◌, take, drop, replicate}
use Rattle.std.proofs.Common.{sym, ap, ap₂, ◌∙◌, inl, inr, add-zero, suc-add, zero-add, div-one, div-add-mod', arith, add-one, pow_pos, take_at, drop_at, ne_eqb}
use Rattle.std.proofs.Math.Bool.{and-eq-true_iff}
use Rattle.std.proofs.Math.Nat.{add-mod_right, mul-mod_left, add-div_right}
use Rattle.std.proofs.lemmas.List.{length-replicate}
use Rattle.lists.specs.Bytes.{Bytes, same, zeros}
use Rattle.lists.specs.Same.{same_eq}
use Rattle.rules.specs.Numbers.{Version}
use Rattle.rules.specs.Messages.{row}
use Rattle.rules.specs.Held.{odd, basis, free_zero}
use Rattle.rules.specs.Checking.{agrees, carried}
use Rattle.rules.proofs.Hops.{split_mod}
use Rattle.rules.proofs.Parity.{halve, half_first, half_pow, Odd, Even, parity}

-- ---- the rows of a basis by q, which is n in steps of 2 ^ c

-- k rows from level c up
abbrev pub rows_at : (ℕ → Bytes) → ℕ → ℕ → ℕ → List Bytes
rows_at T c q zero = []
rows_at T c q (suc k) = cond (odd q) (T (q / 2 * 2 ^ suc c)) zeros ∷ rows_at T (suc c) (q / 2) k

-- The rows of a basis are these.
pub basis_rows : (T : ℕ → Bytes) (n k c : ℕ) → basis T n c k ≡ rows_at T c (n / 2 ^ c) k
unfolding basis
basis_rows T n zero c = refl
basis_rows T n (suc k) c = rw halve (ap {B = List Bytes} (λ r. cond (odd (n / 2 ^ c)) (T (n / 2 ^ c / 2 * 2 ^ suc c)) zeros ∷ r) (basis_rows T n k (suc c) ∙ rw halve))

-- the rows below the level hopped are free
rows_zero : (T : ℕ → Bytes) (l c q k : ℕ) → q % 2 ^ l ≡ 0 → rows_at T c q (l + k) ≡ replicate l zeros ++ rows_at T (l + c) (q / 2 ^ l) k
rows_zero T zero c q k e = simp (zero-add, div-one)
rows_zero T (suc l) c q k e =
    let s = split_mod q l e in
    let n : odd q ≡ false = ne_eqb (q % 2) 1 (λ g. omega (arith, s.0)) in
    let a : suc l + c ≡ l + suc c = omega arith in
    rw (suc-add l k, n, half_first, a) (ap {B = List Bytes} (λ r. zeros ∷ r) (rows_zero T l (suc c) (q / 2) k s.1))

module _ (T : ℕ → Bytes) (K l n : ℕ) (small : l ≤ K) (div : n % 2 ^ l ≡ 0) where
  split : basis T n 0 K ≡ replicate l zeros ++ rows_at T l (n / 2 ^ l) (K - l)
  split =
      basis_rows T n K 0
      ∙ ap₂ (λ (x y : ℕ). rows_at T 0 x y) (div-one n) (let e : K ≡ l + (K - l) = omega arith in e)
      ∙ rows_zero T l 0 n (K - l) div ∙ ap (λ (x : ℕ). replicate l zeros ++ rows_at T x (n / 2 ^ l) (K - l)) (add-zero l)

  -- Where 2 ^ l divides n, the rows below level l are zero,
  pub low_rows : take l (basis T n 0 K) ≡ replicate l zeros
  low_rows = rw split (take_at (replicate l zeros) _ l (length-replicate l zeros))

  -- and those from level l up are told by n in steps of 2 ^ l.
  pub high_rows : drop l (basis T n 0 K) ≡ rows_at T l (n / 2 ^ l) (K - l)
  high_rows = rw split (drop_at (replicate l zeros) _ l (length-replicate l zeros))

-- ---- the carry

carry_rows : (T : ℕ → Bytes) (k c q : ℕ) → carried q (rows_at T c q k) (T (q * 2 ^ c)) ≡ rows_at T c (suc q) k
unfolding carried
carry_rows T zero c q = refl
carry_rows T (suc k) c q = go (parity q) (carry_rows T k (suc c) (q / 2))
  where
    go : Odd q ⊎ Even q → carried (q / 2) (rows_at T (suc c) (q / 2) k) (T (q / 2 * 2 ^ suc c)) ≡ rows_at T (suc c) (suc (q / 2)) k
        → carried q (rows_at T c q (suc k)) (T (q * 2 ^ c)) ≡ rows_at T c (suc q) (suc k)
    go (inl h) r = rw (h.here, h.next, h.half) (ap {B = List Bytes} (λ x. zeros ∷ x) r)
    go (inr h) r = rw (h.here, h.next, h.half, half_pow (q / 2) c q h.twice)

-- A hop of level l takes the basis at n to the basis at n + 2 ^ l.
pub hop_rows : (T : ℕ → Bytes) (K l n : ℕ) → l ≤ K → n % 2 ^ l ≡ 0
    → take l (basis T n 0 K) ++ carried (n / 2 ^ l) (drop l (basis T n 0 K)) (T n) ≡ basis T (n + 2 ^ l) 0 K
hop_rows T K l n h d =
    let whole : n / 2 ^ l * 2 ^ l ≡ n = let e = div-add-mod' n (2 ^ l) in omega arith in
    let up : (n + 2 ^ l) / 2 ^ l ≡ suc (n / 2 ^ l) = add-div_right n (pow_pos l) ∙ add-one (n / 2 ^ l) in
    rw (low_rows T K l n h d, high_rows T K l n h d, split T K l (n + 2 ^ l) h (add-mod_right n (2 ^ l) ∙ d), up)
    (ap {B = List Bytes} (λ r. replicate l zeros ++ r) (ap (λ (x : ℕ). carried (n / 2 ^ l) (rows_at T l (n / 2 ^ l) (K - l)) (T x)) (sym whole) ∙ carry_rows T (K - l) l (n / 2 ^ l)))

-- ---- the comparison

-- Rows of a basis agree with a component x of element n whose links are T(n - 2^m).
pub agree_rows : (T : ℕ → Bytes) (v : Version) (n : ℕ) (x : Bytes) → ((m : ℕ) → m ≤ 64 → n % 2 ^ m ≡ 0 → row v x (suc m) ≡ T (n - 2 ^ m))
    → (k c q : ℕ) → c + k ≤ 64 → suc q * 2 ^ c ≡ n → agrees v c q (rows_at T c q k) x ≡ true
unfolding agrees
agree_rows T v n x f zero c q h e = refl
agree_rows T v n x f (suc k) c q h e = go (parity q) (agree_rows T v n x f k (suc c) (q / 2) (omega arith))
  where
    go : Odd q ⊎ Even q → (suc (q / 2) * 2 ^ suc c ≡ n → agrees v (suc c) (q / 2) (rows_at T (suc c) (q / 2) k) x ≡ true) → agrees v c q (rows_at T c q (suc k)) x ≡ true
    go (inl g) r =
        let e' : suc (q / 2) * 2 ^ suc c ≡ n = half_pow (suc (q / 2)) c (suc q) g.twice ∙ e in
        let d : n % 2 ^ suc c ≡ 0 = rw (← e') (mul-mod_left (suc (q / 2)) (2 ^ suc c)) in
        let m : n - 2 ^ suc c ≡ q / 2 * 2 ^ suc c = rw (← e') (omega arith) in
        rw g.here ((and-eq-true_iff _ _).1 (same_eq _ _ (sym (f (suc c) (omega arith) d ∙ ap T m)), r e'))
    go (inr g) r = rw g.here

-- ---- free rows

free_rows : (T : ℕ → Bytes) (k c q : ℕ) → free_zero q (rows_at T c q k) ≡ true
unfolding free_zero
free_rows T zero c q = refl
free_rows T (suc k) c q = go (odd q) (free_rows T k (suc c) (q / 2))
  where
    go : (b : Bool) → free_zero (q / 2) (rows_at T (suc c) (q / 2) k) ≡ true
        → ((b || same (cond b (T (q / 2 * 2 ^ suc c)) zeros) zeros) && free_zero (q / 2) (rows_at T (suc c) (q / 2) k)) ≡ true
    go true r = r
    go false r = r

-- The free rows of a basis are zero.
pub basis_free : (T : ℕ → Bytes) (n k : ℕ) → free_zero n (basis T n 0 k) ≡ true
basis_free T n k = ap (free_zero n) (basis_rows T n k 0 ∙ ap (λ (x : ℕ). rows_at T 0 x k) (div-one n)) ∙ free_rows T k 0 n
