-- The rows in use, as they stand in a file: how many bytes they are, and that nothing is lost from rows to bytes to rows, nor from bytes to rows to
-- bytes. q is the count, in steps of the first row's level.
use Rattle.std.specs.Prelude.{◌≡◌, refl, ◌⊎◌, Bool, true, false, cond, ◌&&◌, ◌||◌, List, [], ◌∷◌, ◌++◌, ℕ, zero, suc, ◌+◌, ◌*◌, ◌/◌, ◌%◌, ◌^◌, ◌<◌, length, get_or, take, drop}
use Rattle.std.proofs.Common.{sym, ap, ap₂, ◌∙◌, inl, inr, append_assoc, append-nil, pow-suc, div-one, arith, length-append, length-drop, take-append-drop, take_at, drop_at, eqb-true}
use Rattle.std.proofs.Math.Bool.{and-eq-true_iff}
use Rattle.std.specs.Int.Count.{ones, ones_in, ones_step}
use Rattle.lists.specs.Bytes.{Bytes, same, zeros}
use Rattle.lists.specs.Same.{same_true}
use Rattle.rules.specs.Held.{odd, free_zero}
use Rattle.rules.proofs.Parity.{half_first, Odd, Even, parity}
use Rattle.file_form.specs.Form.{in_use, rows_in}

-- each row has 32 bytes
abbrev pub Whole : List Bytes → Type 0
Whole rs = (l : ℕ) → l < length rs → length (get_or rs l []) ≡ 32

whole_rest : (r : Bytes) (rs : List Bytes) → Whole (r ∷ rs) → Whole rs
whole_rest r rs w l h = w (suc l) (omega arith)

-- ---- the lowest bit as a number

bit_one : {q : ℕ} → Odd q → q % 2 ≡ 1
bit_one {q} o = eqb-true (q % 2) 1 o.here

bit_zero : {q : ℕ} → Even q → q % 2 ≡ 0
bit_zero e = omega (arith, e.twice)

pub none_left : (q : ℕ) → q < 2 ^ 0 → ones q ≡ 0
unfolding ones ones_in
none_left zero h = refl
none_left (suc q) h = absurd (omega arith)

pub half_left : (q k : ℕ) → q < 2 ^ suc k → q / 2 < 2 ^ k
half_left q k h = let e = pow-suc 2 k in omega arith

-- ---- how many bytes they are

-- one row: 32 if it is in use, else none
pub row_size : (q : ℕ) (r : Bytes) → length r ≡ 32 → length (cond (odd q) r []) ≡ 32 * (q % 2)
row_size q r w = go (parity q)
  where
    go : Odd q ⊎ Even q → length (cond (odd q) r []) ≡ 32 * (q % 2)
    go (inl o) = rw (o.here, bit_one o) w
    go (inr e) = rw (e.here, bit_zero e)

-- 32 FOR EACH BIT OF THE COUNT
pub use_size : (rs : List Bytes) (q : ℕ) → q < 2 ^ length rs → Whole rs → length (in_use q rs) ≡ 32 * ones q
unfolding in_use
use_size [] q h w = rw (none_left q h)
use_size (r ∷ rs) q h w =
    length-append (cond (odd q) r []) (in_use (q / 2) rs)
    ∙ omega (arith, row_size q r (w 0 (omega arith)), use_size rs (q / 2) (half_left q (length rs) h) (whole_rest r rs w), ones_step q)

-- ---- one row more at the end

pub use_more : (rs : List Bytes) (r : Bytes) (q : ℕ) → in_use q (rs ++ (r ∷ [])) ≡ in_use q rs ++ cond (odd (q / 2 ^ length rs)) r []
unfolding in_use
use_more [] r q = rw (append-nil, div-one)
use_more (s ∷ rs) r q =
    ap (λ (b : Bytes). cond (odd q) s [] ++ b) (use_more rs r (q / 2) ∙ ap (λ (n : ℕ). in_use (q / 2) rs ++ cond (odd n) r []) (sym (half_first q (length rs))))
    ∙ sym (append_assoc (cond (odd q) s []) (in_use (q / 2) rs) (cond (odd (q / 2 ^ suc (length rs))) r []))

-- ---- rows to bytes to rows

pub use_back : (rs : List Bytes) (q : ℕ) → free_zero q rs ≡ true → Whole rs → rows_in (length rs) q (in_use q rs) ≡ rs
unfolding in_use rows_in free_zero
use_back [] q f w = refl
use_back (r ∷ rs) q f w =
    let t = (and-eq-true_iff (odd q || same r zeros) (free_zero (q / 2) rs)).0 f in
    ap₂ {A = Bytes} {B = List Bytes} {C = List Bytes} (λ x l. x ∷ l) (go (parity q) t.0)
    (ap (rows_in (length rs) (q / 2)) (drop_at (cond (odd q) r []) (in_use (q / 2) rs) (32 * (q % 2)) (row_size q r one))
    ∙ use_back rs (q / 2) t.1 (whole_rest r rs w))
  where
    one : length r ≡ 32
    one = w 0 (omega arith)

    go : Odd q ⊎ Even q → (odd q || same r zeros) ≡ true → cond (odd q) (take 32 (cond (odd q) r [] ++ in_use (q / 2) rs)) zeros ≡ r
    go (inl o) t = rw o.here (take_at r (in_use (q / 2) rs) 32 one)
    go (inr e) t = rw e.here (sym (same_true r zeros (rw e.here at t)))

-- ---- bytes to rows to bytes

pub rows_back : (k q : ℕ) (b : Bytes) → q < 2 ^ k → length b ≡ 32 * ones q → in_use q (rows_in k q b) ≡ b
unfolding in_use rows_in
rows_back zero q [] h e = refl
rows_back zero q (x ∷ b) h e = absurd (omega (arith, none_left q h))
rows_back (suc k) q b h e = go (parity q) (rows_back k (q / 2) (drop (32 * (q % 2)) b) (half_left q k h) (length-drop (32 * (q % 2)) b ∙ omega (arith, ones_step q)))
  where
    go : Odd q ⊎ Even q → in_use (q / 2) (rows_in k (q / 2) (drop (32 * (q % 2)) b)) ≡ drop (32 * (q % 2)) b
        → cond (odd q) (cond (odd q) (take 32 b) zeros) [] ++ in_use (q / 2) (rows_in k (q / 2) (drop (32 * (q % 2)) b)) ≡ b
    go (inl o) rest = rw (rest, o.here, bit_one o) (take-append-drop 32 b)
    go (inr e) rest = rw (rest, e.here, bit_zero e)

-- ---- the rows that are read

-- Every row that is not in use is zero.
pub rows_free : (k q : ℕ) (b : Bytes) → free_zero q (rows_in k q b) ≡ true
unfolding free_zero rows_in
rows_free zero q b = refl
rows_free (suc k) q b = go (odd q) (rows_free k (q / 2) (drop (32 * (q % 2)) b))
  where
    go : (t : Bool) → free_zero (q / 2) (rows_in k (q / 2) (drop (32 * (q % 2)) b)) ≡ true
        → ((t || same (cond t (take 32 b) zeros) zeros) && free_zero (q / 2) (rows_in k (q / 2) (drop (32 * (q % 2)) b))) ≡ true
    go true r = r
    go false r = r

pub rows_all : (k q : ℕ) (b : Bytes) → length (rows_in k q b) ≡ k
unfolding rows_in
rows_all zero q b = refl
rows_all (suc k) q b = ap suc (rows_all k (q / 2) (drop (32 * (q % 2)) b))
