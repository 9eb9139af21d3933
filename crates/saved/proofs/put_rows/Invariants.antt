-- `saved::put_rows` meets its contract: the rows in use among those before a row stand behind the head.
use Rattle.held.specs.Holding.{rows_of}
use Rattle.saved.proofs.Turns.{Put}
use Rattle.saved.proofs.put_rows.Given as goal

abbrev pub invariant-loop-row : goal.invariant-loop-row
invariant-loop-row l = Put l.initial.out (rows_of l.rows) l.initial.bits l.out l.bits l.at l.row-index
