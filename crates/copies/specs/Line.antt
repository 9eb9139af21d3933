-- The line of the program `lot_compare`: "Add a program that reads both from named files, at most 32 KiB each, and writes one line: `equal`, `first shorter`,
-- `second shorter`, `differ N B` with B from 0, `refused N`, or `unread` for a file unreadable or longer." Text is ASCII.
use Rattle.std.specs.Prelude.{Bool, cond, ◌&&◌, [], ◌∷◌, ◌++◌, ℕ, zero, suc, ◌+◌, ◌/◌, ◌%◌, leb, ltb, length}
use Rattle.lists.specs.Bytes.{Bytes}
use Rattle.rules.specs.Numbers.{Version}
use Rattle.copies.specs.Comparing.{equal, first_shorter, second_shorter, differ}
use Rattle.copies.specs.Calls.{Outcome, found, refused, compare_call}

-- n in decimal, with no zero before it, if it has at most k digits
unfoldable pub decimal_in : ℕ → ℕ → Bytes
decimal_in zero n = []
decimal_in (suc k) n = cond (ltb n 10) ((48 + n) ∷ []) (decimal_in k (n / 10) ++ ((48 + n % 10) ∷ []))

-- no number of 64 bits has more than 20 digits
abbrev pub decimal : ℕ → Bytes
decimal n = decimal_in 20 n

-- `equal`, `first shorter`, `second shorter`, `differ N B`, `refused N`
unfoldable pub words : Outcome → Bytes
words (found equal) = 101 ∷ 113 ∷ 117 ∷ 97 ∷ 108 ∷ []
words (found first_shorter) = 102 ∷ 105 ∷ 114 ∷ 115 ∷ 116 ∷ 32 ∷ 115 ∷ 104 ∷ 111 ∷ 114 ∷ 116 ∷ 101 ∷ 114 ∷ []
words (found second_shorter) = 115 ∷ 101 ∷ 99 ∷ 111 ∷ 110 ∷ 100 ∷ 32 ∷ 115 ∷ 104 ∷ 111 ∷ 114 ∷ 116 ∷ 101 ∷ 114 ∷ []
words (found (differ n b)) = (100 ∷ 105 ∷ 102 ∷ 102 ∷ 101 ∷ 114 ∷ 32 ∷ []) ++ decimal n ++ (32 ∷ decimal b)
words (refused num) = (114 ∷ 101 ∷ 102 ∷ 117 ∷ 115 ∷ 101 ∷ 100 ∷ 32 ∷ []) ++ decimal num

-- `unread`
abbrev pub unread : Bytes
unread = 117 ∷ 110 ∷ 114 ∷ 101 ∷ 97 ∷ 100 ∷ []

-- "at most 32 KiB each"
abbrev pub file_most : ℕ
file_most = 32768

-- Of two files, s and t as far as they were read; `read` is whether there are two names and no read failed. Without its line feed:
unfoldable pub text_of : Version → Bool → Bytes → Bytes → Bytes
text_of v read s t = cond (read && (leb (length s) file_most && leb (length t) file_most)) (words (compare_call v s t)) unread

unfoldable pub line_of : Version → Bool → Bytes → Bytes → Bytes
line_of v read s t = text_of v read s t ++ (10 ∷ [])
