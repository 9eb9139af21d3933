-- The line without its line feed, test by test.
use Rattle.std.specs.Prelude.{◌≡◌, Bool, cond, ◌&&◌, leb, length}
use Rattle.lists.specs.Bytes.{Bytes}
use Rattle.rules.specs.Numbers.{Version}
use Rattle.copies.specs.Calls.{compare_call}
use Rattle.copies.specs.Line.{words, unread, file_most, text_of}

-- The text by its tests; one that it does not come to may be anything.
pub text_is : (v : Version) (s t : Bytes) {read r few fewer : Bool} → read ≡ r → leb (length s) file_most ≡ few → leb (length t) file_most ≡ fewer
    → text_of v read s t ≡ cond (r && (few && fewer)) (words (compare_call v s t)) unread
unfolding text_of
text_is v s t e1 e2 e3 = rw (e1, e2, e3)
