-- `sha256::hash` meets its contract: the message is all that is left of itself.
use mathlib.Core.Path.{refl, sym, ap, ◌∙◌}
use Rattle.std.specs.Prelude.{Ok}
use Rattle.sha256.specs.Ending.{ended_all}
use Rattle.sha256.specs.Outcomes.{hashed_long, hashed_fits}
use Rattle.sha256.proofs.hash.Goals as goal

pub returns-then-message-gt-LIMIT : goal.returns-then-message-gt-LIMIT
returns-then-message-gt-LIMIT c = sym (hashed_long _ c.if-message-gt-LIMIT.true)

pub returns : goal.returns
returns c =
    let m = c.args.message.now in
    ap Ok (ended_all _ _ m _ _ c.first.ensures refl c.ended-last.ensures c.bytes_of.ensures)
    ∙ sym (hashed_fits m c.if-message-gt-LIMIT.false)
