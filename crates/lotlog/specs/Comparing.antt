-- What the export of request A8 leaves, whatever it is given.
use Rattle.std.specs.Prelude.{◌≡◌, [], ◌∷◌}
use Rattle.std.proofs.Common.{ap, ◌∙◌}
use Rattle.lists.specs.Bytes.{Bytes}
use Rattle.rules.specs.Numbers.{v1}
use Rattle.rules.specs.Refusals.{done}
use Rattle.copies.specs.Comparing.{equal, first_shorter, second_shorter, differ}
use Rattle.copies.specs.Calls.{Outcome, found, refused, compare_call}
use Rattle.lotlog.specs.Exports.{Told, told}

-- the kind of the answer, the element and the byte; beside a refusal 0
abbrev pub compared : Outcome → Told
compared (found equal) = told done (0 ∷ 0 ∷ 0 ∷ [])
compared (found first_shorter) = told done (1 ∷ 0 ∷ 0 ∷ [])
compared (found second_shorter) = told done (2 ∷ 0 ∷ 0 ∷ [])
compared (found (differ n b)) = told done (3 ∷ n ∷ b ∷ [])
compared (refused num) = told num (0 ∷ 0 ∷ 0 ∷ [])

unfoldable pub lot_compare : Bytes → Bytes → Told
lot_compare s t = compared (compare_call v1 s t)

-- Telling what the comparison answered tells its outcome.
pub tells_compared : {t : Told} {a o : Outcome} → t ≡ compared a → a ≡ o → t ≡ compared o
tells_compared tells met = tells ∙ ap compared met
