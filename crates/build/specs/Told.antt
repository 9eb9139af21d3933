-- 01's number and value for each answer, and back: telling loses nothing.
use Rattle.std.specs.Prelude.{◌≡◌, refl, cond, ℕ, eqb, Result, Ok, Err}
use Rattle.rules.specs.Refusals.{done, store_damaged, no_such_number, output_short}
use Rattle.rules.specs.Calls.{Answer, gives, refuses}
use Rattle.build.specs.declared.BuildError.{BuildError}
use Rattle.build.specs.declared.BuildError.TheVariants.{Damaged, NoSuchNumber, OutputShort}

abbrev pub built_told : Result ℕ BuildError → Answer
built_told (Ok size) = gives size
built_told (Err Damaged) = refuses store_damaged
built_told (Err NoSuchNumber) = refuses no_such_number
built_told (Err OutputShort) = refuses output_short

-- ---- and back

abbrev pub built_from : Answer → Result ℕ BuildError
built_from a =
    cond (eqb a.number done) (Ok a.value)
    (cond (eqb a.number store_damaged) (Err Damaged)
    (cond (eqb a.number no_such_number) (Err NoSuchNumber) (Err OutputShort)))

pub built_back : (b : Result ℕ BuildError) → built_from (built_told b) ≡ b
built_back (Ok size) = refl
built_back (Err Damaged) = refl
built_back (Err NoSuchNumber) = refl
built_back (Err OutputShort) = refl
