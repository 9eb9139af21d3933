-- `hash::joined` meets its contract: SHA-256 of a message in two parts is that of the parts, one after the other.
use Rattle.std.proofs.Common.{◌∙◌}
use Rattle.hash.proofs.Joining.{digest_is}
use Rattle.hash.proofs.joined.Goals as goal

pub returns : goal.returns
returns c = c.unwrap_or-bytes.ensures ∙ digest_is c.args.first.now c.args.second.now _ c.joined.ensures
