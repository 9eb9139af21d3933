-- What `joined` gives.
use Rattle.std.specs.Prelude.{◌≡◌, cond, List, ◌++◌, ℕ, ◌+◌, ◌≤◌, ◌<◌, leb, length, replicate}
use Rattle.std.proofs.Common.{ap, ◌∙◌, le-leb}
use Rattle.std.proofs.lemmas.Bool.{lt-leb}
use Rattle.sha256.specs.Stream.{limit}
use Rattle.hash.specs.Hash.{hash_of}

-- the hash of both strings, one after the other; zeros where they have more than 65,536 bytes
unfoldable pub joined_of : List ℕ → List ℕ → List ℕ
joined_of a b = cond (leb (length a + length b) limit) (hash_of (a ++ b)) (replicate 32 0)

pub joined_short : (a b : List ℕ) → length a + length b ≤ limit → joined_of a b ≡ hash_of (a ++ b)
unfolding joined_of
joined_short a b h = rw (le-leb _ _ h)

pub joined_long : (a b : List ℕ) → limit < length a + length b → joined_of a b ≡ replicate 32 0
unfolding joined_of
joined_long a b h = rw (lt-leb _ _ h)

-- the digest of a message that is handed over in two parts
pub hashed : (r a b m : List ℕ) → r ≡ joined_of a b → length a + length b ≤ limit → a ++ b ≡ m → r ≡ hash_of m
hashed r a b m e h f = e ∙ joined_short a b h ∙ ap hash_of f
