-- `block::ch` meets its contract: the same bit by bit.
use Rattle.std.proofs.Common.{rules}
use Rattle.block.proofs.Choosing.{choose}
use Rattle.block.proofs.ch.Goals as goal

pub returns : goal.returns
returns c = choose 32 c.args.x c.args.y c.args.z (search rules) (search rules) (search rules)
