-- `sha256::HashState::take` meets its contract: it makes the rule's tests in the rule's order.
use mathlib.Core.Path.{◌≡◌, sym, ap, ◌∙◌}
use mathlib.Core.Bool.{false}
use Rattle.std.specs.Prelude.{Ok}
use native.Mathlib.Omega.{arith}
use Rattle.sha256.specs.Stream.{broken}
use Rattle.sha256.specs.Outcomes.{sound_facts, taken_broken, taken_long, taken_fits}
use Rattle.sha256.proofs.HashState.take.Goals as goal
use Rattle.sha256.proofs.HashState.take.Goals.{Else-is_broken}

-- past the first test the state is sound
sound : (c : Else-is_broken) → broken c.args.self ≡ false
sound c = sym c.is_broken.ensures ∙ c.if-is_broken.false

pub returns-then-is_broken : goal.returns-then-is_broken
returns-then-is_broken c = sym (taken_broken _ _ (sym c.is_broken.ensures ∙ c.if-is_broken.true))

pub overflow_sub-self : goal.overflow_sub-self
overflow_sub-self c = (sound_facts _ (sound (goal.at.overflow_sub-self c).Else-is_broken)).1

pub returns-then-self-bytes : goal.returns-then-self-bytes
returns-then-self-bytes c =
    let h = sound_facts _ (sound (goal.at.returns-then-self-bytes c).Else-is_broken) in
    sym (taken_long _ _ (sound (goal.at.returns-then-self-bytes c).Else-is_broken) (omega arith))

pub feed-self-requires : goal.feed-self-requires
feed-self-requires c =
    let h = sound_facts _ (sound (goal.at.feed-self-requires c).Else-is_broken) in
    (omega arith, omega arith)

pub returns : goal.returns
returns c =
    let h = sound_facts _ (sound (goal.at.returns c).Else-is_broken) in
    ap Ok c.feed-self.ensures ∙ sym (taken_fits _ _ (sound (goal.at.returns c).Else-is_broken) (omega arith))
