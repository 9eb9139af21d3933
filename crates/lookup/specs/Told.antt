-- The number of each verdict, and back: telling loses nothing. The calls are those of document 02, and so are the numbers.
use Rattle.std.specs.Prelude.{◌≡◌, refl, cond, ℕ, eqb, Result, Ok, Err, is_ok}
use Rattle.lists.specs.Bytes.{Bytes}
use Rattle.hash.specs.Hash.{hash_of}
use Rattle.rules.specs.Refusals.{done, too_long}
use Rattle.rules.proofs.OneOutcome.{One, one_outcome, OneOf, one_of}
use Rattle.dictionary.specs.Refusals.{proof_length, root_differs}
use Rattle.dictionary.specs.Calls.{check_presence, check_absence}
use Rattle.lookup.specs.declared.LookupError.{LookupError}
use Rattle.lookup.specs.declared.LookupError.TheVariants.{KeyTooLong, WrongLength, RootDiffers}

unfoldable pub verdict_number : Result (Unit {0}) LookupError → ℕ
verdict_number (Ok u) = done
verdict_number (Err KeyTooLong) = too_long
verdict_number (Err WrongLength) = proof_length
verdict_number (Err RootDiffers) = root_differs

abbrev pub verdict_from : ℕ → Result (Unit {0}) LookupError
verdict_from n =
    cond (eqb n done) (Ok tt)
    (cond (eqb n too_long) (Err KeyTooLong)
    (cond (eqb n proof_length) (Err WrongLength) (Err RootDiffers)))

pub verdict_back : (v : Result (Unit {0}) LookupError) → verdict_from (verdict_number v) ≡ v
unfolding verdict_number
verdict_back (Ok u) = refl
verdict_back (Err KeyTooLong) = refl
verdict_back (Err WrongLength) = refl
verdict_back (Err RootDiffers) = refl

-- two verdicts that meet a contract are the same
one_verdict : (n : ℕ) → One verdict_number n
one_verdict n = one_outcome verdict_number verdict_from verdict_back n

pub check_presence_one : (key root p : Bytes) → One verdict_number (check_presence hash_of key root p)
check_presence_one key root p = one_verdict (check_presence hash_of key root p)

pub check_absence_one : (key root p : Bytes) → One verdict_number (check_absence hash_of key root p)
check_absence_one key root p = one_verdict (check_absence hash_of key root p)

-- whether a proof is accepted
pub accepted_is_ok : (v : Result (Unit {0}) LookupError) → is_ok v ≡ eqb (verdict_number v) done
unfolding verdict_number
accepted_is_ok (Ok u) = refl
accepted_is_ok (Err KeyTooLong) = refl
accepted_is_ok (Err WrongLength) = refl
accepted_is_ok (Err RootDiffers) = refl

pub is_accepted_one : (v : Result (Unit {0}) LookupError) → OneOf (eqb (verdict_number v) done)
is_accepted_one v = one_of (eqb (verdict_number v) done)
