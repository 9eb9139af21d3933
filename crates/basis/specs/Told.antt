-- 01's number and the state for each answer, and back: telling loses nothing.
use Rattle.std.specs.Prelude.{◌≡◌, refl, cond, ℕ, eqb, Result, Ok, Err}
use Rattle.std.proofs.Common.{ap}
use Rattle.hash.specs.Hash.{hash_of}
use Rattle.lists.specs.Bytes.{Bytes}
use Rattle.rules.specs.Numbers.{v1}
use Rattle.rules.specs.Refusals.{done, store_damaged}
use Rattle.rules.specs.Held.{held_zeros}
use Rattle.rules.specs.Calls.{HeldFound, held_found, held_call}
use Rattle.rules.proofs.OneOutcome.{One, one_outcome}
use Rattle.held.specs.Holding.{holds, held_from, held_back}
use Rattle.held.specs.declared.Held.{Held}
use Rattle.store.specs.declared.ReadError.{ReadError}
use Rattle.store.specs.declared.ReadError.TheVariants as read
use Rattle.store.specs.Told.{found_told}

-- a state; all zeros beside a refusal
abbrev pub held_told : Result Held ReadError → HeldFound
held_told (Ok h) = held_found done (holds h)
held_told (Err e) = held_found (found_told {T = Held} (Err e)) (held_zeros v1)

-- ---- and back

abbrev read_from : HeldFound → Result Held ReadError
read_from f = cond (eqb f.number done) (Ok (held_from f.held)) (Err (cond (eqb f.number store_damaged) read.Damaged read.NoSuchNumber))

read_back : (r : Result Held ReadError) → read_from (held_told r) ≡ r
read_back (Ok h) = ap {A = Held} {B = Result Held ReadError} Ok (held_back h)
read_back (Err read.Damaged) = refl
read_back (Err read.NoSuchNumber) = refl

-- ONE OUTCOME: two answers that meet the contract are the same.
pub held_one : (s : Bytes) (at : ℕ) → One held_told (held_call hash_of v1 s at)
held_one s at = one_outcome held_told read_from read_back (held_call hash_of v1 s at)
