-- Request A7, computed: the paths at the ends of the longest log and on both sides of the end before it, the bytes of their proofs, the file of a state at the
-- last count, the state in that file, and the refusals one past the last count are those that were made outside. That such a file has the length of its count
-- is not computed here: the count of one bits, as the kit defines it, takes a step for each number up to the count.
use Rattle.std.specs.Prelude.{◌≡◌, refl, true, List, [], ◌∷◌, ◌++◌, ℕ, ◌+◌, length, replicate}
use Rattle.std.specs.Int.Count.{count_trailing_zeros}
use Rattle.lists.specs.Bytes.{Bytes, number_from}
use Rattle.standin.specs.Hash.{hash_of, xored, xor_row}
use Rattle.rules.specs.Numbers.{v1}
use Rattle.rules.specs.Paths.{level, greatest, hops, hops_in, path, path_after}
use Rattle.rules.specs.Messages.{start_msg, size, total}
use Rattle.rules.specs.Held.{Held, held_start, free_zero, is_in_order}
use Rattle.rules.specs.Checking.{member, advance, advance_walk}
use Rattle.rules.specs.Calls.{member_call, advance_call}
use Rattle.file_form.specs.Form.{head, in_use, file_of, rows_in, state_in}
use Rattle.file_form.specs.Calls.{read_call}
use Rattle.outside.specs.Made as made
use Rattle.outside.specs.Agree.{flat, agree}

-- of the path between elements: its hops, and the bytes of both proofs
abbrev between : ℕ → ℕ → List ℕ
between i n = length (hops i n) ∷ total v1 (path i n) ∷ total v1 (path_after i n) ∷ []

-- of the path from the start, which has no component
abbrev from_start : ℕ → List ℕ
from_start n = length (hops 0 n) ∷ total v1 (path_after 0 n) ∷ total v1 (path_after 0 n) ∷ []

-- k rows, each of 32 times one number, from this one up
unfoldable rising : ℕ → List ℕ → List Bytes
rising b [] = []
rising b (l ∷ ls) = replicate 32 b ∷ rising (b + 1) ls

-- a state whose rows are all filled, at a count
abbrev full : ℕ → Held
full n = record { log = 7; count = n; digest = replicate 32 99; rows = rising 100 (replicate 32 0) }

-- a state as numbers
abbrev told : Held → List ℕ
told h = h.log ∷ h.count ∷ (h.digest ++ flat h.rows)

abbrev reads : Bytes → ℕ
reads f = (read_call hash_of v1 f).number

abbrev checks : ℕ → ℕ
checks n = (member_call hash_of v1 [] 1 n (replicate 32 0) []).number

abbrev advances : Held → ℕ → ℕ
advances h n = (advance_call hash_of v1 h n (replicate 32 0) []).answer.number

pub computed : List (List ℕ × List ℕ)
computed =
    (path 1 4294967295, made.farthest)
    ∷ (0 ∷ path_after 0 4294967295, made.from_start)
    ∷ (path 1048575 1048577 ++ path 2863311530 3435973837, made.across)
    ∷ (
      between 1 4294967295 ++ from_start 4294967295 ++ between 1 4294967294 ++ between 2147483647 4294967295 ++ between 2147483648 4294967295
          ++ between 1048575 1048577 ++ between 2863311530 3435973837 ++ between 4294967295 4294967295,
      made.ends,
    )
    -- "the longest element message 1,065": nine bytes and the component of 2^31
    ∷ ((9 + size v1 2147483648) ∷ [], 1065 ∷ [])
    ∷ (file_of v1 (full 4294967295), made.saved_last)
    ∷ (told (state_in v1 made.saved_last), told (full 4294967295))
    -- 4 past the last length, and 7 at it, for a proof with no bytes
    ∷ (checks 4294967296 ∷ checks 4294967295 ∷ [], 4 ∷ 7 ∷ [])
    ∷ (advances (held_start hash_of v1 7) 4294967296 ∷ advances (held_start hash_of v1 7) 4294967295 ∷ [], 4 ∷ 7 ∷ [])
    -- 2 past the last count, and 11 at it, for the digest of another log
    ∷ (advances (full 4294967296) 4294967296 ∷ advances (full 4294967295) 4294967295 ∷ [], 2 ∷ 11 ∷ [])
    -- 21 past the last count, for a file of no row
    ∷ (reads (head v1 (full 4294967296)) ∷ [], 21 ∷ [])
    ∷ []

-- THE RULES GIVE THE ENDS THAT WERE MADE OUTSIDE
pub ends_agree : agree computed ≡ true
unfolding agree computed flat rising made.farthest made.from_start made.across made.ends made.saved_last hash_of xored xor_row number_from count_trailing_zeros
    level greatest hops hops_in path start_msg free_zero is_in_order member advance advance_walk head in_use file_of rows_in state_in read_call
ends_agree = refl
