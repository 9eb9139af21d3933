-- `lists::lay` meets its contract: after i turns the first i bytes are pasted in.
use Rattle.std.proofs.Common.{◌≡◌, length}
use Rattle.std.proofs.Math.Seq.{paste}
use Rattle.lists.proofs.lay.Given as goal

abbrev pub invariant-loop-i : goal.invariant-loop-i
invariant-loop-i l = (l.s ≡ paste l.initial.s l.at l.from l.i) × (length l.s ≡ length l.initial.s)
