-- The number and the size of each answer, and back: telling loses nothing.
use Rattle.std.specs.Prelude.{◌≡◌, refl, cond, ℕ, eqb, Result, Ok, Err}
use Rattle.rules.specs.Refusals.{done, too_long, output_short}
use Rattle.rules.specs.Calls.{Answer, gives, refuses}
use Rattle.dictionary.specs.Refusals.{list_refused, other_kind}
use Rattle.prove.specs.declared.ProveError.{ProveError}
use Rattle.prove.specs.declared.ProveError.TheVariants.{KeyTooLong, ListRefused, OtherKind, OutputShort}

abbrev pub built_told : Result ℕ ProveError → Answer
built_told (Ok size) = gives size
built_told (Err KeyTooLong) = refuses too_long
built_told (Err ListRefused) = refuses list_refused
built_told (Err OtherKind) = refuses other_kind
built_told (Err OutputShort) = refuses output_short

abbrev pub built_from : Answer → Result ℕ ProveError
built_from a =
    cond (eqb a.number done) (Ok a.value)
    (cond (eqb a.number too_long) (Err KeyTooLong)
    (cond (eqb a.number list_refused) (Err ListRefused)
    (cond (eqb a.number other_kind) (Err OtherKind) (Err OutputShort))))

pub built_back : (b : Result ℕ ProveError) → built_from (built_told b) ≡ b
built_back (Ok size) = refl
built_back (Err KeyTooLong) = refl
built_back (Err ListRefused) = refl
built_back (Err OtherKind) = refl
built_back (Err OutputShort) = refl
