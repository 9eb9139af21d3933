-- How long a digest is, and a padded message; and that a digest is of bytes.
use Rattle.std.specs.Prelude.{◌≡◌, refl, ◌++◌, ℕ, ◌+◌, ◌/◌, ◌%◌, ◌<◌, length}
use Rattle.std.proofs.Common.{arith, length-append}
use Rattle.std.proofs.lemmas.List.{length-replicate}
use Rattle.lists.specs.Bytes.{Bytes, AreBytes, be}
use Rattle.lists.specs.Numbers.{be_bytes, append_bytes}
use Rattle.fips.specs.Sha256.{padding, padded, H0, chained, bytes_of, sha256}
use Rattle.fips.specs.declared.Words.{Words}

-- SHA-256 gives 32 bytes.
pub sha256_length : (m : Bytes) → length (sha256 m) ≡ 32
unfolding sha256
sha256_length m = refl

-- The numbers that it gives are bytes: those of each word are, and so are those of two strings together.
record Good (b : Bytes) : Type 0 where
  bytes : AreBytes b

word_bytes : (w : ℕ) → Good (be 4 w)
word_bytes w = record { bytes = be_bytes 4 w }

words_bytes : (s : Words) → Good (bytes_of s)
words_bytes s =
    join (join (join (join (join (join (join (word_bytes s.a) s.b) s.c) s.d) s.e) s.f) s.g) s.h
  where
    join : {a : Bytes} → Good a → (w : ℕ) → Good (a ++ be 4 w)
    join {a} x w = record { bytes = append_bytes a (be 4 w) x.bytes (be_bytes 4 w) }

pub sha256_bytes : (m : Bytes) → AreBytes (sha256 m)
unfolding sha256
sha256_bytes m = (words_bytes (chained H0 (length (padded m) / 64) (padded m))).bytes

-- A padded message is a whole number of blocks, and its zero bytes are the fewest that make it so: fewer than a block's.
pub padded_whole : (m : Bytes) → length (padded m) % 64 ≡ 0
unfolding padded padding
padded_whole m = simp (length-append, length-replicate) (omega arith)

pub padding_least : (n : ℕ) → length (padding n) < 64 + 9
unfolding padding
padding_least n = simp (length-append, length-replicate) (omega arith)
