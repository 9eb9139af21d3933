-- `node::digest_of` meets its contract: nothing stands behind the message.
use mathlib.Core.List.{append-nil}
use native.Mathlib.Omega.{arith}
use Rattle.hash.specs.Joined.{hashed}
use Rattle.node.proofs.digest_of.Goals as goal

pub returns : goal.returns
returns c = hashed _ _ _ _ c.joined.ensures (omega arith) (append-nil _)
