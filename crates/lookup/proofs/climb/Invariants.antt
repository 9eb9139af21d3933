-- `lookup::climb` meets its contract: at each turn the node at the depth reached.
use Rattle.std.proofs.Common.{◌≡◌, ◌≤◌}
use Rattle.lookup.specs.Climbing.{node_at}
use Rattle.lookup.proofs.climb.Given as goal

abbrev pub invariant-loop-depth : goal.invariant-loop-depth
invariant-loop-depth l = (l.t ≤ l.depth) × (l.own.bytes ≡ node_at l.key.bytes l.proof l.initial.own.bytes l.depth)
