-- What each answer of the comparison says, in the request's terms.
use Rattle.std.specs.Prelude.{Result, Ok, Err}
use Rattle.rules.specs.Refusals.{store_damaged}
use Rattle.copies.specs.Refusals.{other_log}
use Rattle.copies.specs.Comparing.{equal, first_shorter, second_shorter, differ}
use Rattle.copies.specs.Calls.{Outcome, found, refused}
use Rattle.compare.specs.declared.Compared.{Compared}
use Rattle.compare.specs.declared.Compared.TheVariants.{Equal, FirstShorter, SecondShorter, Differ}
use Rattle.compare.specs.declared.CompareError.{CompareError}
use Rattle.compare.specs.declared.CompareError.TheVariants.{Damaged, OtherLog}

abbrev pub compared_told : Result Compared CompareError → Outcome
compared_told (Ok Equal) = found equal
compared_told (Ok FirstShorter) = found first_shorter
compared_told (Ok SecondShorter) = found second_shorter
compared_told (Ok (Differ j b)) = found (differ j.0 b)
compared_told (Err Damaged) = refused store_damaged
compared_told (Err OtherLog) = refused other_log
