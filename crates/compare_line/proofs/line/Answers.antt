-- `compare_line::line` meets its contract: the line feed stands behind the words.
use Rattle.std.proofs.Common.{◌≡◌, ◌∙◌, ap, arith, length}
use Rattle.lists.specs.Bytes.{Bytes}
use Rattle.rules.specs.Numbers.{v1}
use Rattle.rules.specs.Calls.{over}
use Rattle.copies.specs.Line.{line_of}
use Rattle.compare_line.proofs.Digits.{text_short}
use Rattle.compare_line.proofs.line.Goals as goal
use Rattle.compare_line.proofs.line.Goals.{After-push}

pub push-requires : goal.push-requires
push-requires c = let a = c.args in omega (arith, ap length c.outcome-text.ensures, text_short v1 a.read a.first.now a.second.now)

whole : (c : After-push) → let a = c.args in c.push.new.self ≡ line_of v1 a.read a.first.now a.second.now
unfolding line_of
whole c = rw (c.push.ensures, c.outcome-text.ensures)

pub returns-clause-value : goal.returns-clause-value
returns-clause-value c = c.copy_to.ensures.value ∙ ap length (whole (goal.at.returns-clause-value c).After-push)

pub returns-clause-out_after : goal.returns-clause-out_after
returns-clause-out_after c = c.copy_to.ensures.out_after ∙ ap (λ (m : Bytes). over m c.args.out.now) (whole (goal.at.returns-clause-out_after c).After-push)
