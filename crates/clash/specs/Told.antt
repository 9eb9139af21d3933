-- What each answer tells, and back: telling loses nothing.
use Rattle.std.specs.Prelude.{◌≡◌, refl, cond, eqb, Result, Ok, Err}
use Rattle.rules.specs.Refusals.{output_short, not_accepted}
use Rattle.dictionary.specs.Calls.{Finding, clashing, zeroed, denied}
use Rattle.clash.specs.declared.show.Clashed.{Clashed}
use Rattle.clash.specs.declared.show.Clashed.TheVariants.{Two, Zero}
use Rattle.clash.specs.declared.show.ClashError.{ClashError}
use Rattle.clash.specs.declared.show.ClashError.TheVariants.{BufferShort, NotAccepted}
use Rattle.clash.specs.declared.show.Shown.TheVariants.{Presence, Absence}

abbrev pub clash_told : Result Clashed ClashError → Finding
clash_told (Ok (Two first second)) = clashing first second
clash_told (Ok (Zero size)) = zeroed size
clash_told (Err BufferShort) = denied output_short 0
clash_told (Err (NotAccepted Presence)) = denied not_accepted 1
clash_told (Err (NotAccepted Absence)) = denied not_accepted 2

abbrev pub clash_from : Finding → Result Clashed ClashError
clash_from (clashing first second) = Ok (Two first second)
clash_from (zeroed size) = Ok (Zero size)
clash_from (denied num which) = Err (cond (eqb num output_short) BufferShort (NotAccepted (cond (eqb which 1) Presence Absence)))

pub clash_back : (a : Result Clashed ClashError) → clash_from (clash_told a) ≡ a
clash_back (Ok (Two first second)) = refl
clash_back (Ok (Zero size)) = refl
clash_back (Err BufferShort) = refl
clash_back (Err (NotAccepted Presence)) = refl
clash_back (Err (NotAccepted Absence)) = refl
