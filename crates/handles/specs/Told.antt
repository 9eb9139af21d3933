-- The number of what asking for a handle comes to, and back: telling loses nothing.
use Rattle.std.specs.Prelude.{◌≡◌, refl, cond, ℕ, eqb, Result, Ok, Err}
use Rattle.lists.specs.Bytes.{Bytes, zeros}
use Rattle.hash.specs.Hash.{hash_of}
use Rattle.rules.specs.Refusals.{done, too_long}
use Rattle.rules.specs.Calls.{Found, found}
use Rattle.rules.proofs.OneOutcome.{One, one_outcome}
use Rattle.dictionary.specs.Calls.{handle_call}
use Rattle.hash.specs.declared.Digest.{Digest}
use Rattle.handles.specs.declared.key.KeyTooLong.{KeyTooLong}

abbrev pub handle_number : Result Digest KeyTooLong → ℕ
handle_number (Ok d) = done
handle_number (Err e) = too_long

-- beside a refusal the digest is zeros
abbrev pub handle_told : Result Digest KeyTooLong → Found
handle_told (Ok d) = found done d.bytes
handle_told (Err e) = found too_long zeros

abbrev pub handle_from : Found → Result Digest KeyTooLong
handle_from f = cond (eqb f.number done) (Ok (record { bytes = f.digest })) (Err record {})

pub handle_back : (r : Result Digest KeyTooLong) → handle_from (handle_told r) ≡ r
handle_back (Ok d) = refl
handle_back (Err e) = refl

-- two answers that meet the contract are the same
pub handle_one : (key : Bytes) → One handle_told (handle_call hash_of key)
handle_one key = one_outcome handle_told handle_from handle_back (handle_call hash_of key)
