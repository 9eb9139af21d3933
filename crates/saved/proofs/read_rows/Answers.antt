-- `saved::read_rows` meets its contract: the rows before a row are those that the file gives, and the others zero so far.
use Rattle.std.proofs.Common.{get_or, sym, arith}
use Rattle.std.proofs.lemmas.List.{map-set}
use Rattle.hash.specs.declared.Digest.{Digest}
use Rattle.held.specs.Holding.{bytes_of}
use Rattle.held.proofs.Turns.{no_digest, row_of}
use Rattle.saved.proofs.Turns.{got_start, got_fits, got_used, got_free, got_end}
use Rattle.saved.proofs.read_rows.Goals as goal
use Rattle.saved.proofs.read_rows.Goals.{then-q-eq1, else-q-eq1}

pub loop-row-init : goal.loop-row-init
loop-row-init c = got_start _ _ c.requires

pub row_at-row-requires : goal.row_at-row-requires
row_at-row-requires c =
    let l = c.loop-row in
    let e = c.if-q-eq1.true in
    omega (arith, got_fits _ _ _ l.q l.at l.row-index l.invariant)

pub loop-row-preserved : goal.loop-row-preserved
loop-row-preserved c =
    let l = c.loop-row in
    let i = l.invariant in
    elim c.if-q-eq1.branch [
      | then-q-eq1 w ↦
          let row : Digest = record { bytes = w.row_at-row.result } in
          rw (w.row-items-is, w.at-is, map-set bytes_of l.row-items l.row-index row)
          (got_used _ _ _ l.q l.at l.row-index i (omega arith) (bytes_of row) w.if-q-eq1.true w.row_at-row.ensures)
      | else-q-eq1 w ↦
          let row : Digest = get_or l.row-items l.row-index no_digest in
          rw (w.row-items-is, w.at-is, map-set bytes_of l.row-items l.row-index row)
          (got_free _ _ _ l.q l.at l.row-index i (omega arith) (bytes_of row) w.if-q-eq1.false (sym (row_of l.row-items l.row-index)))
    ]

pub returns : goal.returns
returns c = let l = c.loop-row in got_end _ _ _ l.q l.at l.row-index l.invariant (omega arith)
