-- `wire::put_rows` meets its contract: after l turns the first l rows are written.
use Rattle.std.proofs.Common.{◌≡◌, ◌*◌, length, take}
use Rattle.std.proofs.Math.Seq.{paste}
use Rattle.held.specs.Holding.{rows_of}
use Rattle.wire.specs.Wire.{rows_place, flat}
use Rattle.wire.proofs.put_rows.Given as goal

abbrev pub invariant-loop-l : goal.invariant-loop-l
invariant-loop-l l =
    let written = flat (take l.l (rows_of l.rows)) in
    (length l.out ≡ length l.initial.out) × (length written ≡ 32 * l.l) × (l.out ≡ paste l.initial.out rows_place written (32 * l.l))
