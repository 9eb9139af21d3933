-- `block::maj` meets its contract: the same bit by bit.
use Rattle.std.proofs.Common.{rules}
use Rattle.block.proofs.Choosing.{most}
use Rattle.block.proofs.maj.Goals as goal

pub returns : goal.returns
returns c = most 32 c.args.x c.args.y c.args.z (search rules) (search rules) (search rules)
