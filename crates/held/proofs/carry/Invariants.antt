-- `held::carry` meets its contract: the carry into the rows from a row up, with what moves, comes to the same at each turn.
use Rattle.std.proofs.Common.{◌≡◌, ◌/◌, ◌^◌, drop}
use Rattle.rules.specs.Checking.{carried}
use Rattle.held.specs.Holding.{rows_of}
use Rattle.held.proofs.Turns.{carried_from}
use Rattle.held.proofs.carry.Given as goal

abbrev pub invariant-loop-row : goal.invariant-loop-row
invariant-loop-row l =
    carried (l.h.count.0 / 2 ^ l.level) (drop l.level (rows_of l.h.rows)) l.h.digest.bytes ≡ carried_from l.row-index l.bits (rows_of l.row-items) l.moving.bytes
