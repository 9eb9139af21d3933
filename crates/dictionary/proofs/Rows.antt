-- Rows of 32 bytes: from a byte string and back, parts of a list of rows, and what holds of every row.
use Rattle.std.specs.Prelude.{◌≡◌, refl, List, [], ◌∷◌, ◌++◌, ℕ, zero, suc, ◌+◌, ◌*◌, ◌/◌, ◌≤◌, ◌<◌, length, take, drop}
use Rattle.std.proofs.Common.{sym, ap, ap₂, ◌∙◌, zero-add, arith, length-append, length-drop, drop_of_length-le, lit<, take_at, drop_at, take-take, drop-drop, get_or-drop, length-take-le}
use Rattle.std.proofs.Math.Decide.{dec_le}
use Rattle.std.proofs.Math.Seq.{take-nil}
use Rattle.lists.specs.Bytes.{Bytes, AreBytes}
use Rattle.lists.specs.Laws.{length_part}
use Rattle.lists.specs.Numbers.{part_bytes}
use Rattle.dictionary.specs.Handles.{rows, rows_of, flat}

-- what holds of every row
unfoldable pub All : (Bytes → Type 0) → List Bytes → Type 0
All P [] = Unit {0}
All P (r ∷ rs) = P r × All P rs

-- a row has 32 bytes, and they are bytes
abbrev pub Whole : Bytes → Type 0
Whole r = length r ≡ 32

pub record Row (r : Bytes) : Type 0 where
  pub whole : Whole r
  pub bytes : AreBytes r

pub all_map : {P Q : Bytes → Type 0} → ((r : Bytes) → P r → Q r) → (rs : List Bytes) → All P rs → All Q rs
unfolding All
all_map f [] a = tt
all_map f (r ∷ rs) a = (f r a.0, all_map f rs a.1)

pub rows_length : (n : ℕ) (s : Bytes) → length (rows n s) ≡ n
unfolding rows
rows_length zero s = refl
rows_length (suc n) s = ap suc (rows_length n (drop 32 s))

pub rows_none : (s : Bytes) → length s < 32 → rows_of s ≡ []
unfolding rows
rows_none s h = let e : length s / 32 ≡ 0 = omega arith in rw e

pub rows_more : (s : Bytes) → 32 ≤ length s → rows_of s ≡ take 32 s ∷ rows_of (drop 32 s)
unfolding rows
rows_more s h =
    let e : length s / 32 ≡ suc (length (drop 32 s) / 32) = omega (arith, length-drop 32 s) in
    ap (λ (n : ℕ). rows n s) e

pub rows_whole : (n : ℕ) (s : Bytes) → 32 * n ≤ length s → All Whole (rows n s)
unfolding rows All
rows_whole zero s h = tt
rows_whole (suc n) s h = (length-take-le 32 s (omega arith), rows_whole n (drop 32 s) (omega (arith, length-drop 32 s)))

pub rows_bytes_lem : (n : ℕ) (s : Bytes) → 32 * n ≤ length s → AreBytes s → All Row (rows n s)
unfolding rows All
rows_bytes_lem zero s h a = tt
rows_bytes_lem (suc n) s h a = (
  record { whole = length-take-le 32 s (omega arith); bytes = part_bytes s 0 32 a },
  rows_bytes_lem n (drop 32 s) (omega (arith, length-drop 32 s)) (λ i. rw (get_or-drop 32 s i 0) (a (32 + i))),
)

-- a row of a byte string
pub part_row : (s : Bytes) (at : ℕ) → AreBytes s → at + 32 ≤ length s → Row (take 32 (drop at s))
part_row s at a h = record { whole = length_part 32 at s h; bytes = part_bytes s at 32 a }

-- ---- parts

-- the rows from an index on, and one row further
pub rows_next : (s : Bytes) (at : ℕ) → at + 32 ≤ length s → rows_of (drop at s) ≡ take 32 (drop at s) ∷ rows_of (drop (at + 32) s)
rows_next s at h =
    rows_more (drop at s) (omega (arith, length-drop at s))
    ∙ ap {B = List Bytes} (λ l. take 32 (drop at s) ∷ rows_of l) (drop-drop 32 at s)

drop_take : (a m n : ℕ) (s : Bytes) → n ≡ a + m → drop a (take n s) ≡ take m (drop a s)
drop_take zero m n s e = rw (e, zero-add)
drop_take (suc a) m zero s e = absurd (omega arith)
drop_take (suc a) m (suc n) [] e = rw take-nil
drop_take (suc a) m (suc n) (x ∷ s) e = drop_take a m n s (omega arith)

pub rows_drop : (m : ℕ) (s : Bytes) → rows_of (drop (32 * m) s) ≡ drop m (rows_of s)
rows_drop zero s = refl
rows_drop (suc m) s = go (dec_le 32 (length s)) (rows_drop m (drop 32 s))
  where
    step : drop (32 * suc m) s ≡ drop (32 * m) (drop 32 s)
    step = let e : 32 * suc m ≡ 32 + 32 * m = omega arith in ap (λ (n : ℕ). drop n s) e ∙ sym (drop-drop (32 * m) 32 s)

    go : Dec (32 ≤ length s) → rows_of (drop (32 * m) (drop 32 s)) ≡ drop m (rows_of (drop 32 s)) → rows_of (drop (32 * suc m) s) ≡ drop (suc m) (rows_of s)
    go (yes h) r = ap rows_of step ∙ r ∙ sym (ap (drop (suc m)) (rows_more s h))
    go (no h) r =
        ap rows_of (drop_of_length-le s {i = 32 * suc m} (omega arith)) ∙ rows_none [] (lit< tt) ∙ sym (ap (drop (suc m)) (rows_none s (omega arith)))

-- row d, and those behind it
pub rows_at : (s : Bytes) (d : ℕ) → 32 * d + 32 ≤ length s → drop d (rows_of s) ≡ take 32 (drop (32 * d) s) ∷ drop (suc d) (rows_of s)
rows_at s d h =
    let e : 32 * d + 32 ≡ 32 * suc d = omega arith in
    sym (rows_drop d s)
    ∙ rows_next s (32 * d) h
    ∙ ap {B = List Bytes} (λ x. take 32 (drop (32 * d) s) ∷ x) (ap (λ (n : ℕ). rows_of (drop n s)) e ∙ rows_drop (suc d) s)

pub rows_take : (m : ℕ) (s : Bytes) → 32 * m ≤ length s → rows_of (take (32 * m) s) ≡ take m (rows_of s)
rows_take zero s h = rows_none [] (lit< tt)
rows_take (suc m) s h =
    let l = length-take-le (32 * suc m) s h in
    let first : take 32 (take (32 * suc m) s) ≡ take 32 s = take-take 32 (32 * suc m) s (omega arith) in
    let rest : drop 32 (take (32 * suc m) s) ≡ take (32 * m) (drop 32 s) = drop_take 32 (32 * m) (32 * suc m) s (omega arith) in
    rows_more (take (32 * suc m) s) (omega arith)
    ∙ ap₂ {A = Bytes} {B = List Bytes} {C = List Bytes} (λ x y. x ∷ y) first (ap rows_of rest ∙ rows_take m (drop 32 s) (omega (arith, length-drop 32 s)))
    ∙ sym (ap (take (suc m)) (rows_more s (omega arith)))

-- ---- there and back

pub flat_length : (rs : List Bytes) → All Whole rs → length (flat rs) ≡ 32 * length rs
unfolding flat All
flat_length [] a = refl
flat_length (r ∷ rs) a = length-append r (flat rs) ∙ (let h = flat_length rs a.1 in let k = a.0 in omega arith)

pub rows_flat : (rs : List Bytes) → All Whole rs → rows_of (flat rs) ≡ rs
unfolding flat All
rows_flat [] a = rows_none [] (lit< tt)
rows_flat (r ∷ rs) a =
    rows_more (r ++ flat rs) (let k = a.0 in omega (arith, length-append r (flat rs)))
    ∙ ap₂ {A = Bytes} {B = List Bytes} {C = List Bytes} (λ x y. x ∷ y) (take_at r (flat rs) 32 a.0) (ap rows_of (drop_at r (flat rs) 32 a.0) ∙ rows_flat rs a.1)
