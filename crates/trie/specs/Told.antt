-- The number of what asking for a root comes to, and back: telling loses nothing.
use Rattle.std.specs.Prelude.{◌≡◌, refl, cond, ℕ, eqb, Result, Ok, Err}
use Rattle.lists.specs.Bytes.{Bytes, zeros}
use Rattle.hash.specs.Hash.{hash_of}
use Rattle.rules.specs.Refusals.{done}
use Rattle.rules.specs.Calls.{Found, found}
use Rattle.rules.proofs.OneOutcome.{One, one_outcome}
use Rattle.dictionary.specs.Refusals.{list_refused}
use Rattle.dictionary.specs.Calls.{root_call}
use Rattle.hash.specs.declared.Digest.{Digest}
use Rattle.trie.specs.declared.ListRefused.{ListRefused}

abbrev pub root_number : Result Digest ListRefused → ℕ
root_number (Ok d) = done
root_number (Err e) = list_refused

-- beside a refusal the digest is zeros
abbrev pub root_told : Result Digest ListRefused → Found
root_told (Ok d) = found done d.bytes
root_told (Err e) = found list_refused zeros

abbrev pub root_from : Found → Result Digest ListRefused
root_from f = cond (eqb f.number done) (Ok (record { bytes = f.digest })) (Err record {})

pub root_back : (r : Result Digest ListRefused) → root_from (root_told r) ≡ r
root_back (Ok d) = refl
root_back (Err e) = refl

-- two answers that meet the contract are the same
pub root_one : (s : Bytes) → One root_told (root_call hash_of s)
root_one s = one_outcome root_told root_from root_back (root_call hash_of s)
