-- 01's number and values for each answer of the dispute, and its whole outcome.
use Rattle.std.specs.Prelude.{◌≡◌, refl, cond, eqb, Option, Some, None, Result, Ok, Err}
use Rattle.std.proofs.Common.{sym, ap, ◌∙◌}
use Rattle.lists.specs.Bytes.{Bytes}
use Rattle.rules.specs.Refusals.{output_short, not_accepted}
use Rattle.rules.specs.Calls.{Finding, all_same, shown, denied, Disputed, disputed}
use Rattle.dispute.specs.declared.show.Shown.{Shown}
use Rattle.dispute.specs.declared.settle.Side.TheVariants.{First, Second}
use Rattle.dispute.specs.declared.settle.DisputeError.{DisputeError}
use Rattle.dispute.specs.declared.settle.DisputeError.TheVariants.{BufferShort, NotAccepted}

-- the lengths of two messages, or none where nothing differs; or why there is no dispute
abbrev pub Answer : Type 0
Answer = Result (Option Shown) DisputeError

unfoldable pub finding_of : Answer → Finding
finding_of (Ok None) = all_same
finding_of (Ok (Some s)) = shown s.first s.second
finding_of (Err BufferShort) = denied output_short 0
finding_of (Err (NotAccepted First)) = denied not_accepted 1
finding_of (Err (NotAccepted Second)) = denied not_accepted 2

-- the answer, and what the two buffers hold
abbrev pub outcome : Answer → Bytes → Bytes → Disputed
outcome a b1 b2 = disputed (finding_of a) b1 b2

-- ---- the map loses nothing, so a contract that fixes the finding fixes the answer

name_of : Finding → Answer
name_of all_same = Ok None
name_of (shown first second) = Ok (Some (record { first = first; second = second }))
name_of (denied num which) = Err (cond (eqb num output_short) BufferShort (NotAccepted (cond (eqb which 1) First Second)))

named : (a : Answer) → name_of (finding_of a) ≡ a
unfolding name_of finding_of
named (Ok None) = refl
named (Ok (Some s)) = refl
named (Err BufferShort) = refl
named (Err (NotAccepted First)) = refl
named (Err (NotAccepted Second)) = refl

pub one_answer : (a b : Answer) → finding_of a ≡ finding_of b → a ≡ b
one_answer a b e = sym (named a) ∙ ap name_of e ∙ named b
