-- `sha256::HashState::finish` meets its contract: it makes the rule's test, and closes what is sound.
use mathlib.Core.Path.{◌≡◌, sym, ap, ◌∙◌}
use mathlib.Core.Bool.{false}
use Rattle.std.specs.Prelude.{Ok}
use Rattle.fips.specs.Sha256.{bytes_of}
use Rattle.sha256.specs.Stream.{broken}
use Rattle.sha256.specs.Outcomes.{sound_facts, finished_broken, finished_sound}
use Rattle.sha256.proofs.HashState.finish.Goals as goal
use Rattle.sha256.proofs.HashState.finish.Goals.{Else-is_broken}

-- past the test the state is sound
sound : (c : Else-is_broken) → broken c.args.self ≡ false
sound c = sym c.is_broken.ensures ∙ c.if-is_broken.false

pub returns-then-is_broken : goal.returns-then-is_broken
returns-then-is_broken c = sym (finished_broken _ (sym c.is_broken.ensures ∙ c.if-is_broken.true))

pub closed-last-requires : goal.closed-last-requires
closed-last-requires c = sound_facts _ (sound (goal.at.closed-last-requires c).Else-is_broken)

pub returns : goal.returns
returns c =
    ap Ok (c.bytes_of.ensures ∙ ap bytes_of c.closed-last.ensures) ∙ sym (finished_sound _ (sound (goal.at.returns c).Else-is_broken))
