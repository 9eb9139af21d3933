-- `saved::read_rows` meets its contract: the rows before a row are those that the file gives.
use Rattle.held.specs.Holding.{rows_of}
use Rattle.saved.proofs.Turns.{Got}
use Rattle.saved.proofs.read_rows.Given as goal

abbrev pub invariant-loop-row : goal.invariant-loop-row
invariant-loop-row l = Got l.file l.initial.q (rows_of l.row-items) l.q l.at l.row-index
