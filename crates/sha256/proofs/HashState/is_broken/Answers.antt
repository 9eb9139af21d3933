-- `sha256::HashState::is_broken` meets its contract: it makes the rule's two tests.
use Rattle.std.proofs.Common.{sym, ap, ◌∙◌, ne_eqb}
use Rattle.std.specs.Prelude.{not}
use Rattle.sha256.specs.Outcomes.{broken_fill, broken_total}
use Rattle.sha256.proofs.HashState.is_broken.Goals as goal

pub returns-then-self : goal.returns-then-self
returns-then-self c = ap not (ne_eqb _ _ c.if-self.true) ∙ sym (broken_fill c.args.self c.if-self.true)

pub returns-else-self : goal.returns-else-self
returns-else-self c = sym (broken_total c.args.self c.if-self.false)
