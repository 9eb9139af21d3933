-- Hashing in pieces: the rule of one byte at a time, and what each call gives for every state, begun or made up.
use Rattle.std.specs.Prelude.{ℕ, ◌+◌, ◌%◌, Bool, cond, not, ◌||◌, ltb, eqb, length, set, replicate, Result, Ok, Err}
use Rattle.std.specs.Result.{result_unwrap_or}
use mathlib.Core.List.{foldl}
use Rattle.lists.specs.Bytes.{Bytes}
use Rattle.fips.specs.Sha256.{H0, compress, padding, bytes_of, sha256}
use Rattle.fips.specs.declared.Words.{Words}
use Rattle.sha256.specs.declared.HashState.{HashState}
use Rattle.sha256.specs.declared.HashError.{HashError}
use Rattle.sha256.specs.declared.HashError.TheVariants.{StateBroken, TooLong}
use Rattle.sha256.specs.declared.Untaken.{Untaken}

-- the most bytes that are hashed
abbrev pub limit : ℕ
limit = 65536

-- a state that holds no byte of a block
abbrev pub emptied : Words → ℕ → HashState
emptied w n = record { words = w; bytes = replicate 64 0; fill = 0; total = n }

unfoldable pub begun : HashState
begun = emptied H0 0

-- one byte: it goes to the place `fill`. Where it is the block's last, the block is compressed and the 64 bytes become zeros
unfoldable pub absorb : HashState → ℕ → HashState
absorb s x =
    cond (eqb (s.fill + 1) 64)
    (emptied (compress s.words (set s.bytes s.fill x)) (s.total + 1))
    (record { words = s.words; bytes = set s.bytes s.fill x; fill = s.fill + 1; total = s.total + 1 })

-- bytes, one after another
unfoldable pub absorbed : HashState → Bytes → HashState
absorbed s m = foldl absorb s m

-- a bad state: the fill is not the total modulo 64, or the total is over the limit. Any words will do
unfoldable pub broken : HashState → Bool
broken s = not (eqb s.fill (s.total % 64)) || ltb limit s.total

-- a bad state is refused, and then more bytes than the limit; the state stays as it came
unfoldable pub taken : HashState → Bytes → Result HashState Untaken
taken s m =
    cond (broken s) (Err (record { error = StateBroken; state = s }))
    (cond (ltb limit (s.total + length m)) (Err (record { error = TooLong; state = s }))
    (Ok (absorbed s m)))

-- a bad state is refused; else the digest is that of the words once FIPS's padding is taken too
unfoldable pub finished : HashState → Result Bytes HashError
finished s = cond (broken s) (Err StateBroken) (Ok (bytes_of (absorbed s (padding s.total)).words))

-- at once: more bytes than the limit are refused
unfoldable pub hashed : Bytes → Result Bytes HashError
hashed m = cond (ltb limit (length m)) (Err TooLong) (Ok (sha256 m))

-- ---- an answer as a number and bytes: 0 and the digest, or the refusal's number and zeros

abbrev pub refusal : HashError → ℕ
refusal StateBroken = 2
refusal TooLong = 3

abbrev pub number_of : Result Bytes HashError → ℕ
number_of (Ok d) = 0
number_of (Err e) = refusal e

abbrev pub digest_of : Result Bytes HashError → Bytes
digest_of r = result_unwrap_or r (replicate 32 0)

-- and what taking answers: 0 and the state that holds the bytes too, or the refusal's number and the state as it came
abbrev pub taken_number : Result HashState Untaken → ℕ
taken_number (Ok s) = 0
taken_number (Err u) = refusal u.error

abbrev pub taken_state : Result HashState Untaken → HashState
taken_state (Ok s) = s
taken_state (Err u) = u.state
