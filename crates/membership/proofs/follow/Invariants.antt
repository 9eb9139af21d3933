-- `membership::follow` meets its contract: the loop's invariant is `Stands`, what is left of the walk decides.
use Prim.Native.Nat.{◌-◌}
use Rattle.membership.proofs.Walking.{Stands}
use Rattle.membership.proofs.follow.Given as goal

abbrev pub invariant-loop-state : goal.invariant-loop-state
invariant-loop-state l = Stands l.n.0 l.proof l.digest.bytes l.initial.state l.state l.hops

abbrev pub decreases-loop-state : goal.decreases-loop-state
decreases-loop-state l = l.n.0 - l.state.at.0
