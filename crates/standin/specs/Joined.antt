-- What `joined` gives: the hash of two strings, one after the other, up to the 65,536 bytes that can be hashed, and zeros beyond.
use Rattle.std.specs.Prelude.{◌≡◌, cond, ◌++◌, ◌+◌, ◌≤◌, ◌<◌, leb, length}
use Rattle.std.proofs.Common.{ap, ◌∙◌, le-leb}
use Rattle.std.proofs.lemmas.Bool.{lt-leb}
use Rattle.lists.specs.Bytes.{Bytes, zeros}
use Rattle.standin.specs.Hash.{hash_of}

unfoldable pub joined_of : Bytes → Bytes → Bytes
joined_of a b = cond (leb (length a + length b) 65536) (hash_of (a ++ b)) zeros

pub joined_short : (a b : Bytes) → length a + length b ≤ 65536 → joined_of a b ≡ hash_of (a ++ b)
unfolding joined_of
joined_short a b h = rw (le-leb _ _ h)

pub joined_long : (a b : Bytes) → 65536 < length a + length b → joined_of a b ≡ zeros
unfolding joined_of
joined_long a b h = rw (lt-leb _ _ h)

-- the digest of a message that is handed over in two parts
pub hashed : (r a b m : Bytes) → r ≡ joined_of a b → length a + length b ≤ 65536 → a ++ b ≡ m → r ≡ hash_of m
hashed r a b m e h f = e ∙ joined_short a b h ∙ ap hash_of f
