-- 01, "What a practice holds": the state, the state that digests give at n, and the states that are refused with 2.
use Rattle.std.specs.Prelude.{◌≡◌, Bool, true, cond, ◌&&◌, ◌||◌, List, [], ◌∷◌, ◌++◌, ℕ, zero, suc, ◌*◌, ◌/◌, ◌%◌, ◌^◌, ◌<◌, leb, eqb, length, get_or, replicate}
use Rattle.lists.specs.Bytes.{Bytes, same, zeros}
use Rattle.rules.specs.Numbers.{Version, limit}
use Rattle.rules.specs.Messages.{start_msg}

-- "Log number, count n, T(n), and a basis: twenty rows of 32 bytes, one for each level." 02, A7: "Held states get thirty-two rows".
pub record Held : Type 0 where
  pub log : ℕ
  pub count : ℕ
  pub digest : Bytes
  pub rows : List Bytes

-- what every state of the code is: its numbers fit into 8 bytes, there is a row for each level, and digest and rows have 32 bytes
pub record Sized (v : Version) (h : Held) : Type 0 where
  pub log_fits : h.log < 256 ^ 8
  pub count_fits : h.count < 256 ^ 8
  pub digest_whole : length h.digest ≡ 32
  pub rows_all : length h.rows ≡ v.levels
  pub rows_whole : (l : ℕ) → l < v.levels → length (get_or h.rows l []) ≡ 32

abbrev pub odd : ℕ → Bool
odd n = eqb (n % 2) 1

-- "Row l is in use exactly if bit l of n is 1, and then holds T(n with bits 0 to l cleared). Other rows are zero."
abbrev pub row_of : (ℕ → Bytes) → ℕ → ℕ → Bytes
row_of T n l = cond (odd (n / 2 ^ l)) (T (n / 2 ^ suc l * 2 ^ suc l)) zeros

-- k rows from level l up
unfoldable pub basis : (ℕ → Bytes) → ℕ → ℕ → ℕ → List Bytes
basis T n l zero = []
basis T n l (suc k) = row_of T n l ∷ basis T n (suc l) k

-- "The state that a store gives at any i up to its count is made of these, from its log number and stored digests."
abbrev pub held_of : Version → ℕ → (ℕ → Bytes) → ℕ → Held
held_of v log T n = record { log = log; count = n; digest = T n; rows = basis T n 0 v.levels }

-- no row is in use, and each is zero
abbrev pub no_rows : Version → List Bytes
no_rows v = replicate v.levels zeros

-- "A state at n = 0 holds T(0) of its log."
abbrev pub held_start : (Bytes → Bytes) → Version → ℕ → Held
held_start H v log = record { log = log; count = 0; digest = H (start_msg v log); rows = no_rows v }

-- "a held state refused by a store or a file is all zeros"
abbrev pub held_zeros : Version → Held
held_zeros v = record { log = 0; count = 0; digest = zeros; rows = no_rows v }

-- whether the free rows are zero; q counts in steps of the first row's level, so its lowest bit tells whether that row is in use
unfoldable pub free_zero : ℕ → List Bytes → Bool
free_zero q [] = true
free_zero q (r ∷ rs) = (odd q || same r zeros) && free_zero (q / 2) rs

-- what is not "held state over the limit, a free row not zero, or count 0 with a digest that is not T(0) of its log"
unfoldable pub is_in_order : (Bytes → Bytes) → Version → Held → Bool
is_in_order H v h =
    leb h.count (limit v)
    && (free_zero h.count h.rows
    && (leb 1 h.count || same h.digest (H (start_msg v h.log))))

-- a state with k further rows, which are free
abbrev pub widened : ℕ → Held → Held
widened k h = record { log = h.log; count = h.count; digest = h.digest; rows = h.rows ++ replicate k zeros }
