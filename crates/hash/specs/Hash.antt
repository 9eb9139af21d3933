-- The log's hash is SHA-256.
use Rattle.std.specs.Prelude.{◌≡◌, List, ℕ, length}
use Rattle.lists.specs.Bytes.{AreBytes}
use Rattle.fips.specs.Sha256.{sha256}
use Rattle.fips.specs.Lengths.{sha256_length, sha256_bytes}

unfoldable pub hash_of : List ℕ → List ℕ
hash_of m = sha256 m

-- it gives 32 numbers, and those of bytes are bytes
pub hash_length : (m : List ℕ) → length (hash_of m) ≡ 32
unfolding hash_of
hash_length m = sha256_length m

pub hash_bytes : (m : List ℕ) → AreBytes m → AreBytes (hash_of m)
unfolding hash_of
hash_bytes m a = sha256_bytes m
