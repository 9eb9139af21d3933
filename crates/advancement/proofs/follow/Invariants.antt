-- `advancement::follow` meets its contract: the walk from where it stands comes to what the whole walk comes to, hop by hop.
use Rattle.std.proofs.Common.{◌-◌}
use Rattle.held.specs.Holding.{holds}
use Rattle.advancement.proofs.Advancing.{Stands}
use Rattle.advancement.proofs.follow.Given as goal

abbrev pub invariant-loop-n : goal.invariant-loop-n
invariant-loop-n l = Stands l.n.0 l.proof l.fn.digest.bytes (holds l.fn.held) (holds l.state) l.next l.hops

abbrev pub decreases-loop-n : goal.decreases-loop-n
decreases-loop-n l = l.n.0 - l.state.count.0
