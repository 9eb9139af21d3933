-- The places of request A5, computed under the stand-in hash on the log of three lots, are those that were made outside: for proofs that are whole, and for
-- proofs with a row of a component spoiled, the answer of each check is its number, its hops, and the element and the row or level where it broke.
use Rattle.std.specs.Prelude.{◌≡◌, refl, true, List, [], ◌∷◌, ◌++◌, ℕ, ◌*◌, set}
use Rattle.std.specs.Int.Count.{count_trailing_zeros}
use Rattle.lists.specs.Bytes.{Bytes, number_from}
use Rattle.standin.specs.Hash.{hash_of, xored, xor_row}
use Rattle.rules.specs.Numbers.{v1}
use Rattle.rules.specs.Paths.{level, greatest, hops, hops_in, path}
use Rattle.rules.specs.Messages.{start_msg, element_msg}
use Rattle.rules.specs.Held.{held_start, free_zero, is_in_order}
use Rattle.rules.specs.Checking.{member, walk, advance, advance_walk, agrees, off_row, carried}
use Rattle.rules.specs.Calls.{Answer, member_call, advance_call}
use Rattle.outside.specs.Made as made
use Rattle.outside.specs.Agree.{agree}
use Rattle.outside.specs.Saved.{three}

abbrev told : Answer → Bytes
told a = a.number ∷ a.value ∷ a.place.element ∷ a.place.level ∷ []

-- a proof with its row r spoiled
abbrev spoil : ℕ → Bytes → Bytes
spoil r p = set p (32 * r) 200

abbrev checked : Bytes → Bytes
checked p = told (member_call hash_of v1 [] 1 3 made.third p)

-- from 3 to 4, whose digest is that of the component whole; and from 0 to 3
abbrev onward : Bytes → Bytes
onward p = told (advance_call hash_of v1 three 4 (hash_of (element_msg 4 made.fourth)) p).answer

abbrev begun : Bytes → Bytes
begun p = told (advance_call hash_of v1 (held_start hash_of v1 7) 3 made.third p).answer

pub computed : List (Bytes × Bytes)
computed = (
  checked made.member ++ checked (spoil 0 made.member) ++ checked (spoil 1 made.member) ++ checked (spoil 2 made.member) ++ checked (spoil 3 made.member)
      ++ checked (spoil 4 made.member) ++ checked (spoil 5 made.member) ++ checked (spoil 6 made.member),
  made.member_places,
)
    ∷ (
      onward made.fourth ++ onward (spoil 0 made.fourth) ++ onward (spoil 1 made.fourth) ++ onward (spoil 2 made.fourth) ++ onward (spoil 3 made.fourth)
          ++ onward (spoil 2 (spoil 3 made.fourth)) ++ onward (spoil 1 (spoil 3 made.fourth))
          ++ begun (spoil 0 made.advanced) ++ begun (spoil 1 made.advanced) ++ begun (spoil 2 made.advanced) ++ begun (spoil 3 made.advanced) ++ begun (spoil 4 made.advanced),
      made.advance_places,
    )
    ∷ []

-- THE CHECKS NAME THE PLACES THAT WERE MADE OUTSIDE
pub places_agree : agree computed ≡ true
unfolding agree computed made.start made.second made.third made.member made.advanced made.fourth made.member_places made.advance_places hash_of xored xor_row number_from count_trailing_zeros
    level greatest hops hops_in path start_msg element_msg free_zero is_in_order member walk advance advance_walk agrees off_row carried
places_agree = refl
