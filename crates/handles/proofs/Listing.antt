-- A lent list, row by row: the rows as the code has them, their order, and whether one of them is a handle.
use Rattle.std.proofs.Common.{◌≡◌, refl, sym, ap, ap₂, ◌∙◌, Bool, true, false, ◌&&◌, ◌||◌, List, [], ◌∷◌, ℕ, zero, suc, ◌+◌, ◌*◌, ◌/◌, ◌<◌, arith, length, take, drop, get_or, eqb, ltb, leb}
use Rattle.std.specs.Simd.{first_chunks}
use Rattle.std.specs.List.{list_any, IsAllAdjacentAnswer}
use Rattle.std.specs.Prelude.{Some}
use Rattle.std.specs.Ordering.{partial_lt, nat_cmp}
use Rattle.std.specs.Cmp.Lexicographic.{pointwise, slice_partial_cmp}
use Rattle.std.proofs.Math.Decide.{dec_lt}
use lib.Dec.{leb-zero}
use borrow.Author.Tests.{lt-ltb, le-ltb, eq-eqb, ne_eqb}
use Rattle.dictionary.proofs.Rows.{All, Row, rows_bytes_lem}
use Rattle.lists.specs.Bytes.{Bytes, AreBytes, same, number_from, number}
use Rattle.dictionary.specs.Handles.{rows, rows_of, rising_from, has}

-- the pieces of 32 bytes are the rows
pub pieces_are_rows : (n : ℕ) (s : Bytes) → first_chunks 32 n s ≡ rows n s
unfolding rows
pieces_are_rows zero s = refl
pieces_are_rows (suc n) s = ap {B = List Bytes} (λ l. take 32 s ∷ l) (pieces_are_rows n (drop 32 s))

-- one string is another where the definitions' test says so
pub same_tests : (x y : Bytes) → pointwise eqb x y ≡ same x y
same_tests [] [] = refl
same_tests [] (b ∷ y) = refl
same_tests (a ∷ x) [] = refl
same_tests (a ∷ x) (b ∷ y) = ap (λ (t : Bool). eqb a b && t) (same_tests x y)

pub any_has : (k : Bytes) (hs : List Bytes) → list_any (λ h. pointwise eqb h k) hs ≡ has k hs
unfolding has
any_has k [] = refl
any_has k (h ∷ hs) = ap₂ {A = Bool} {B = Bool} {C = Bool} (λ a b. a || b) (same_tests h k) (any_has k hs)

-- ---- the order of rows: byte by byte, as numbers

-- how `<` of two byte strings answers
abbrev pub below : Bytes → Bytes → Bool
below = partial_lt (slice_partial_cmp (λ a b. Some (nat_cmp a b)))

-- the first byte that differs decides, whatever follows
ahead : (x y : Bytes) (p q : ℕ) → p < q → length x ≡ length y → AreBytes x → AreBytes y → number_from p x < number_from q y
unfolding number_from
ahead [] [] p q h l a b = h
ahead [] (d ∷ y) p q h l a b = absurd (omega arith)
ahead (c ∷ x) [] p q h l a b = absurd (omega arith)
ahead (c ∷ x) (d ∷ y) p q h l a b =
    let k = a 0 in
    ahead x y (p * 256 + c) (q * 256 + d) (omega arith) (omega arith) (λ i. a (suc i)) (λ i. b (suc i))

below_from : (n : ℕ) (x y : Bytes) → length x ≡ length y → AreBytes x → AreBytes y → below x y ≡ ltb (number_from n x) (number_from n y)
unfolding number_from
below_from n [] [] l a b = sym (le-ltb n n (omega arith))
below_from n [] (d ∷ y) l a b = absurd (omega arith)
below_from n (c ∷ x) [] l a b = absurd (omega arith)
below_from n (c ∷ x) (d ∷ y) l a b = go (dec_lt c d) (dec_lt d c) (λ m. below_from m x y)
  where
    xs : (i : ℕ) → get_or x i 0 < 256
    xs i = a (suc i)

    ys : (i : ℕ) → get_or y i 0 < 256
    ys i = b (suc i)

    long : length x ≡ length y
    long = omega arith

    go : Dec (c < d) → Dec (d < c) → ((m : ℕ) → length x ≡ length y → AreBytes x → AreBytes y → below x y ≡ ltb (number_from m x) (number_from m y)) → below (c ∷ x) (d ∷ y) ≡ ltb (number_from (n * 256 + c) x) (number_from (n * 256 + d) y)
    go (yes h) t f = rw (lt-ltb c d h) (sym (lt-ltb _ _ (ahead x y (n * 256 + c) (n * 256 + d) (omega arith) long xs ys)))
    go (no h) (yes k) f =
        let g = ahead y x (n * 256 + d) (n * 256 + c) (omega arith) (sym long) ys xs in
        rw (le-ltb c d (omega arith), ne_eqb c d (λ e. absurd (omega arith))) (sym (le-ltb (number_from (n * 256 + c) x) (number_from (n * 256 + d) y) (omega arith)))
    go (no h) (no k) f =
        let e : d ≡ c = omega arith in
        rw (e, le-ltb c c (omega arith), eq-eqb c c refl) (f (n * 256 + c) long xs ys)

-- two rows, as the code compares them
row_below : (x y : Bytes) → Row x → Row y → below x y ≡ leb (suc (number x)) (number y)
row_below x y r s = below_from 0 x y (r.whole ∙ sym s.whole) r.bytes s.bytes

-- ---- whether the rows rise: each is above the one before it

ordered : List Bytes → Bool
ordered [] = true
ordered (x ∷ []) = true
ordered (x ∷ y ∷ l) = below x y && ordered (y ∷ l)

falls : (a b : Bool) → false ≡ b → false ≡ a && b
falls true b e = e
falls false b e = refl

adjacent : (hs : List Bytes) (r : Bool) → IsAllAdjacentAnswer (λ x y t. t ≡ below x y) hs r → r ≡ ordered hs
unfolding ordered
adjacent [] true h = refl
adjacent (x ∷ []) true h = refl
adjacent (x ∷ y ∷ l) true h =
    ap₂ {A = Bool} {B = Bool} {C = Bool} (λ a b. a && b) (h 0 [] (omega arith)) (adjacent (y ∷ l) true (λ k d i. let e : suc k + 1 ≡ suc (k + 1) = omega arith in rw e at (h (suc k) d (omega arith))))
adjacent [] false h = let i = h.1 in absurd (omega arith)
adjacent (x ∷ []) false h = let i = h.1 in absurd (omega arith)
adjacent (x ∷ y ∷ l) false (zero, i, f) = ap (λ (t : Bool). t && ordered (y ∷ l)) (f [])
adjacent (x ∷ y ∷ l) false (suc k, i, f) =
    let e : suc k + 1 ≡ suc (k + 1) = omega arith in
    falls (below x y) (ordered (y ∷ l)) (adjacent (y ∷ l) false (k, omega arith, λ d. rw e at (f d)))

risen : (x : Bytes) (l : List Bytes) → Row x → All Row l → ordered (x ∷ l) ≡ rising_from (suc (number x)) l
unfolding ordered rising_from All
risen x [] r a = refl
risen x (y ∷ l) r a = ap₂ {A = Bool} {B = Bool} {C = Bool} (λ a b. a && b) (row_below x y r a.0) (risen y l a.0 a.1)

rises : (hs : List Bytes) → All Row hs → ordered hs ≡ rising_from 0 hs
unfolding ordered rising_from All
rises [] a = refl
rises (x ∷ l) a = risen x l a.0 a.1 ∙ ap (λ (t : Bool). t && rising_from (suc (number x)) l) (sym (leb-zero (number x)))

pub sorted_rises : (s : Bytes) (r : Bool) → AreBytes s → IsAllAdjacentAnswer (λ x y t. t ≡ below x y) (rows_of s) r → r ≡ rising_from 0 (rows_of s)
sorted_rises s r a h = adjacent (rows_of s) r h ∙ rises (rows_of s) (rows_bytes_lem (length s / 32) s (omega arith) a)
