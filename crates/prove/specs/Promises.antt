-- What the contracts of this crate come to, for the hash of this build. One outcome: two answers, and two outputs after a call, that meet a contract are
-- the same. Each kind is built exactly when true. And the check accepts what was built, against the root of the same list.
use Rattle.std.specs.Prelude.{◌≡◌, true, false, ℕ, ◌≤◌, length, take, Result, Ok, Err}
use Rattle.std.proofs.Common.{sym, ap, ap₂, ◌∙◌}
use Rattle.lists.specs.Bytes.{Bytes, AreBytes}
use Rattle.hash.specs.Hash.{hash_of, hash_length, hash_bytes}
use Rattle.rules.specs.Refusals.{done}
use Rattle.rules.specs.Calls.{Found, written}
use Rattle.rules.specs.Calls as calls
use Rattle.rules.proofs.OneOutcome.{One, one_outcome}
use Rattle.dictionary.specs.Handles.{listed}
use Rattle.dictionary.specs.Calls.{key_long, proof_of, is_present, root_call, presence_call, absence_call, check_presence, check_absence}
use Rattle.dictionary.proofs.Built.{presence_built, absence_built, presence_refused, absence_refused, built_presence, built_absence}
use Rattle.trie.specs.Told.{root_told}
use Rattle.hash.specs.declared.Digest.{Digest}
use Rattle.trie.specs.declared.ListRefused.{ListRefused}
use Rattle.prove.specs.Told.{built_told, built_from, built_back}
use Rattle.prove.specs.declared.ProveError.{ProveError}
use Rattle.prove.specs.declared.ProveError.TheVariants.{OtherKind}

-- ---- one outcome for each call

-- an answer, and the output after the call
abbrev pub outcome : Result ℕ ProveError × Bytes → calls.Written
outcome x = written (built_told x.0) x.1

one_written : (o : calls.Written) → One outcome o
one_written o = one_outcome outcome (λ w. (built_from w.answer, w.bytes)) (λ x. ap (λ (b : Result ℕ ProveError). (b, x.1)) (built_back x.0)) o

pub presence_one : (s key out : Bytes) → One outcome (presence_call hash_of s key out)
presence_one s key out = one_written (presence_call hash_of s key out)

pub absence_one : (s key out : Bytes) → One outcome (absence_call hash_of s key out)
absence_one s key out = one_written (absence_call hash_of s key out)

-- ---- each kind is built exactly when true; o is the output after the call

module _ (s key out o : Bytes) (short : key_long key ≡ false) (may : listed s ≡ true) (r : Result ℕ ProveError) where
  -- A PROOF OF PRESENCE IS MADE where the list has the handle and the output has room,
  pub presence_made : outcome (r, o) ≡ presence_call hash_of s key out → is_present hash_of s key ≡ true → 8192 ≤ length out → r ≡ Ok 8192
  presence_made met h room = sym (built_back r) ∙ ap (λ (w : calls.Written). built_from w.answer) (met ∙ presence_built hash_of hash_length s key short may out h room)

  -- and refused where it has not.
  pub presence_denied : outcome (r, o) ≡ presence_call hash_of s key out → is_present hash_of s key ≡ false → r ≡ Err OtherKind
  presence_denied met h = sym (built_back r) ∙ ap (λ (w : calls.Written). built_from w.answer) (met ∙ presence_refused hash_of hash_length s key short may out h)

  -- A PROOF OF ABSENCE IS MADE where the list does not have the handle and the output has room,
  pub absence_made : outcome (r, o) ≡ absence_call hash_of s key out → is_present hash_of s key ≡ false → length (proof_of hash_of s key) ≤ length out
      → r ≡ Ok (length (proof_of hash_of s key))
  absence_made met h room = sym (built_back r) ∙ ap (λ (w : calls.Written). built_from w.answer) (met ∙ absence_built hash_of hash_length s key short may out h room)

  -- and refused where it has.
  pub absence_denied : outcome (r, o) ≡ absence_call hash_of s key out → is_present hash_of s key ≡ true → r ≡ Err OtherKind
  absence_denied met h = sym (built_back r) ∙ ap (λ (w : calls.Written). built_from w.answer) (met ∙ absence_refused hash_of hash_length s key short may out h)

-- ---- what is built is accepted against the root of the same list; d is what `trie::root` reads. The list and the key are of bytes, as all lent memory is.

module _ (s key out o : Bytes) (bytes : AreBytes s) (key_bytes : AreBytes key) (size : ℕ) (d : Result Digest ListRefused) (read : root_told d ≡ root_call hash_of s) where
  -- A PROOF OF PRESENCE IS ACCEPTED.
  pub presence_accepted : outcome (Ok size, o) ≡ presence_call hash_of s key out → check_presence hash_of key (root_told d).digest (take size o) ≡ done
  presence_accepted met =
      ap₂ {A = Bytes} {B = Bytes} {C = ℕ} (λ t p. check_presence hash_of key t p) (ap (λ (f : Found). f.digest) read) (ap (λ (w : calls.Written). take w.answer.value w.bytes) met)
      ∙ built_presence hash_of hash_length s key hash_bytes bytes key_bytes out (sym (ap (λ (w : calls.Written). w.answer.number) met))

  -- A PROOF OF ABSENCE IS ACCEPTED.
  pub absence_accepted : outcome (Ok size, o) ≡ absence_call hash_of s key out → check_absence hash_of key (root_told d).digest (take size o) ≡ done
  absence_accepted met =
      ap₂ {A = Bytes} {B = Bytes} {C = ℕ} (λ t p. check_absence hash_of key t p) (ap (λ (f : Found). f.digest) read) (ap (λ (w : calls.Written). take w.answer.value w.bytes) met)
      ∙ built_absence hash_of hash_length s key hash_bytes bytes key_bytes out (sym (ap (λ (w : calls.Written). w.answer.number) met))
