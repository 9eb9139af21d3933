-- `sha256::HashState::closed` meets its contract: what is held is the rest of the message.
use Rattle.std.proofs.Common.{◌≡◌, sym, ◌∙◌, rules, length}
use Rattle.sha256.specs.Ending.{ended_held}
use Rattle.sha256.proofs.HashState.closed.Goals as goal

pub returns : goal.returns
returns c =
    let h = c.args.self in
    let l : length h.bytes ≡ 64 = search rules in
    c.padded.ensures ∙ sym (ended_held h h.total c.requires.0 l)
