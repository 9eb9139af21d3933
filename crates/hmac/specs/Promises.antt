-- What the contract of this crate comes to, for the hash of this build. One outcome: two answers of `mac` that meet it are the same.
use Rattle.lists.specs.Bytes.{Bytes}
use Rattle.hash.specs.Hash.{hash_of}
use Rattle.rules.proofs.OneOutcome.{One, one_outcome}
use Rattle.seals.specs.Calls.{mac_call}
use Rattle.hmac.specs.Told.{coded_told, coded_from, coded_back}

pub mac_one : (key m : Bytes) → One coded_told (mac_call hash_of key m)
mac_one key m = one_outcome coded_told coded_from coded_back (mac_call hash_of key m)
