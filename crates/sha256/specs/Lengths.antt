-- Every answer holds 32 bytes, refused or not.
use Rattle.std.specs.Prelude.{◌≡◌, refl, Bool, true, false, cond, ltb, length, Result, Err}
use Rattle.lists.specs.Bytes.{Bytes}
use Rattle.fips.specs.Lengths.{sha256_length}
use Rattle.sha256.specs.Stream.{limit, broken, finished, hashed, digest_of}
use Rattle.sha256.specs.declared.HashState.{HashState}
use Rattle.sha256.specs.declared.HashError.{HashError}
use Rattle.sha256.specs.declared.HashError.TheVariants.{StateBroken, TooLong}

either : (b : Bool) (x y : Result Bytes HashError) → length (digest_of x) ≡ 32 → length (digest_of y) ≡ 32 → length (digest_of (cond b x y)) ≡ 32
either true x y p q = p
either false x y p q = q

pub finished_length : (s : HashState) → length (digest_of (finished s)) ≡ 32
unfolding finished
finished_length s = either (broken s) (Err StateBroken) _ refl refl

pub hashed_length : (m : Bytes) → length (digest_of (hashed m)) ≡ 32
unfolding hashed
hashed_length m = either (ltb limit (length m)) (Err TooLong) _ refl (sha256_length m)
