-- 02, A4, "Save what a practice holds": the file of a held state, and the state that stands in a file. For any version of the log.
use Rattle.std.specs.Prelude.{cond, List, [], ◌∷◌, ◌++◌, ℕ, zero, suc, ◌+◌, ◌*◌, ◌/◌, ◌%◌, take, drop}
use Rattle.std.specs.Int.Count.{ones}
use Rattle.lists.specs.Bytes.{Bytes, be, number, zeros}
use Rattle.rules.specs.Numbers.{Version}
use Rattle.rules.specs.Held.{Held, odd}

-- ---- "a file form: "HLD", 16-bit version 1, log number and count (8 bytes each), digest, then only the rows in use, lowest level first"

abbrev pub hld : Bytes
hld = 72 ∷ 76 ∷ 68 ∷ []

-- what stands before the rows, and its bytes
unfoldable pub head : Version → Held → Bytes
head v h = hld ++ be 2 v.number ++ be 8 h.log ++ be 8 h.count ++ h.digest

abbrev pub head_size : ℕ
head_size = 53

-- the rows in use; q counts in steps of the first row's level, so its lowest bit tells whether that row is in use
unfoldable pub in_use : ℕ → List Bytes → Bytes
in_use q [] = []
in_use q (r ∷ rs) = cond (odd q) r [] ++ in_use (q / 2) rs

unfoldable pub file_of : Version → Held → Bytes
file_of v h = head v h ++ in_use h.count h.rows

-- its bytes: those before the rows, and 32 for each bit of the count that is 1
abbrev pub file_size : ℕ → ℕ
file_size n = head_size + 32 * ones n

-- ---- what stands in a file f

abbrev pub mark_in : Bytes → Bytes
mark_in f = take 3 f

abbrev pub version_in : Bytes → Bytes
version_in f = take 2 (drop 3 f)

abbrev pub count_in : Bytes → ℕ
count_in f = number (take 8 (drop 13 f))

-- k rows: those in use take 32 bytes each of b, one after the other, and every other row is zero
unfoldable pub rows_in : ℕ → ℕ → Bytes → List Bytes
rows_in zero q b = []
rows_in (suc k) q b = cond (odd q) (take 32 b) zeros ∷ rows_in k (q / 2) (drop (32 * (q % 2)) b)

unfoldable pub state_in : Version → Bytes → Held
state_in v f = record {
  log = number (take 8 (drop 5 f));
  count = count_in f;
  digest = take 32 (drop 21 f);
  rows = rows_in v.levels (count_in f) (drop head_size f);
}
