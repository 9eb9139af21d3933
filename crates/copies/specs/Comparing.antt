-- Request A8, "Two stores that should agree", for any version of the log. A store is its closed records here: open room, capacity and state bytes do not
-- count.
use Rattle.std.specs.Prelude.{Bool, cond, ℕ, zero, suc, min, leb, ltb, eqb, get_or}
use Rattle.lists.specs.Bytes.{Bytes, same}
use Rattle.rules.specs.Numbers.{Version}
use Rattle.rules.specs.Store.{count_of, fields_size, fields_of}

-- the first of k numbers from i for which p does not hold; i + k if it holds for each
unfoldable pub first_not : (ℕ → Bool) → ℕ → ℕ → ℕ
first_not p i zero = i
first_not p i (suc k) = cond (p i) (first_not p (suc i) k) i

-- ---- "the first element at which they differ"

-- whether element j is the same in both, without its state byte
abbrev pub same_element : Version → Bytes → Bytes → ℕ → Bool
same_element v s t j = same (fields_of v s j) (fields_of v t j)

-- how many elements both have
abbrev pub common : Version → Bytes → Bytes → ℕ
common v s t = min (count_of v s) (count_of v t)

-- the first of these that differs; one more than there are if none does
abbrev pub element_at : Version → Bytes → Bytes → ℕ
element_at v s t = first_not (same_element v s t) 1 (common v s t)

-- ---- "then the first byte within its 64", "with B from 0"

abbrev pub same_byte : Bytes → Bytes → ℕ → Bool
same_byte x y b = eqb (get_or x b 0) (get_or y b 0)

abbrev pub byte_at : Version → Bytes → Bytes → ℕ → ℕ
byte_at v s t j = first_not (same_byte (fields_of v s j) (fields_of v t j)) 0 (fields_size v)

-- ---- "Otherwise answer that they are equal or that one is the start of the other, and which."

pub data Finding : Type 0 where
  equal : Finding
  first_shorter : Finding
  second_shorter : Finding
  differ : ℕ → ℕ → Finding  -- the element, from 1, and the byte, from 0

-- from the two counts, where no common element differs
abbrev pub by_counts : ℕ → ℕ → Finding
by_counts n m = cond (ltb n m) first_shorter (cond (ltb m n) second_shorter equal)

unfoldable pub finding : Version → Bytes → Bytes → Finding
finding v s t =
    cond (leb (element_at v s t) (common v s t))
    (differ (element_at v s t) (byte_at v s t (element_at v s t)))
    (by_counts (count_of v s) (count_of v t))
