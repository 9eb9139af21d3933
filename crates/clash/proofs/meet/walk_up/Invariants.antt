-- `clash::meet::walk_up` meets its contract: at each turn both nodes at the depth reached, and what was found from there down.
use Rattle.clash.proofs.Meets.{Stands}
use Rattle.clash.proofs.meet.walk_up.Given as goal

abbrev pub invariant-loop-depth : goal.invariant-loop-depth
invariant-loop-depth l = Stands l.key.bytes l.presence l.absence l.depth l.full.bytes l.empty.bytes l.found
