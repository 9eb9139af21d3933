-- `lot_compare::read_all` is safe and ends: each turn reads at least one byte, and no more than there is room for.
use Rattle.std.proofs.Common.{◌-◌, ◌≤◌, length}
use Rattle.lot_compare.proofs.read_all.Given as goal

abbrev pub invariant-loop-done : goal.invariant-loop-done
invariant-loop-done g l = l.done ≤ length l.buf

abbrev pub decreases-loop-done : goal.decreases-loop-done
decreases-loop-done g l = length l.buf - l.done
