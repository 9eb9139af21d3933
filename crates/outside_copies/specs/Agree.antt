-- The definitions of request A8, computed on a store of three lots and changed copies of it, give the lines that were made outside.
use Rattle.std.specs.Prelude.{◌≡◌, refl, true, false, [], ◌∷◌, ◌++◌, ℕ, ◌+◌, ◌-◌, ◌*◌, take, set, replicate}
use Rattle.lists.specs.Bytes.{Bytes, same, number_from}
use Rattle.rules.specs.Numbers.{v1}
use Rattle.rules.specs.Store.{first_unclosed, all_open, damaged, log_of}
use Rattle.copies.specs.Comparing.{first_not, finding}
use Rattle.copies.specs.Calls.{compare_call}
use Rattle.copies.specs.Line.{decimal_in, words, text_of, line_of}
use Rattle.outside_copies.specs.Made as made

abbrev line : Bytes → Bytes → Bytes
line s t = line_of v1 true s t

-- the store with another byte in the record of element j, and in its header
abbrev other : ℕ → ℕ → ℕ → Bytes
other j at b = set made.kept (16 + (j - 1) * 65 + at) b

abbrev headed : ℕ → ℕ → Bytes
headed at b = set made.kept at b

-- equal: itself, without its room, with another byte there; the start of the other; a difference: the first and the last byte of an element, in either store,
-- in the longer one, and the lower of two; one past the shorter; other log numbers; and damage, also where the log number is another
pub computed : Bytes
computed =
    line made.kept made.kept
    ++ line made.kept (take 211 made.kept)
    ++ line made.kept (other 4 0 0)
    ++ line (take 146 made.kept) made.kept
    ++ line made.kept (take 16 made.kept)
    ++ line (take 16 made.kept) (take 16 made.kept)
    ++ line made.kept (other 1 0 0)
    ++ line made.kept (other 1 63 0)
    ++ line (other 3 40 0) made.kept
    ++ line (take 146 made.kept) (other 2 10 0)
    ++ line (set (other 3 5 0) 144 0) made.kept
    ++ line (take 146 made.kept) (other 3 10 0)
    ++ line made.kept (headed 15 8)
    ++ line made.kept (headed 8 1)
    ++ line (headed 4 2) (headed 15 8)
    ++ line made.kept (other 2 64 255)
    ++ line (other 4 64 0) made.kept
    ++ line (take 15 made.kept) made.kept

-- THE DEFINITIONS GIVE THE LINES THAT WERE MADE OUTSIDE
pub lines_agree : same computed made.lines ≡ true
unfolding computed made.kept made.lines number_from log_of first_unclosed all_open damaged first_not finding compare_call decimal_in words text_of line_of
lines_agree = refl

-- what could not be read, and what has a byte too many: `unread`
abbrev unread_line : Bytes
unread_line = 117 ∷ 110 ∷ 114 ∷ 101 ∷ 97 ∷ 100 ∷ 10 ∷ []

pub unread_said : same (line_of v1 false made.kept made.kept ++ line made.kept (replicate 32769 0) ++ line (replicate 32769 0) made.kept) (unread_line ++ unread_line ++ unread_line) ≡ true
unfolding made.kept text_of line_of
unread_said = refl

-- `refused 1`, for 32,768 bytes of zeros
pub longest_read : same (line made.kept (replicate 32768 0)) (114 ∷ 101 ∷ 102 ∷ 117 ∷ 115 ∷ 101 ∷ 100 ∷ 32 ∷ 49 ∷ 10 ∷ []) ≡ true
unfolding made.kept number_from log_of first_unclosed all_open damaged first_not finding compare_call decimal_in words text_of line_of
longest_read = refl
