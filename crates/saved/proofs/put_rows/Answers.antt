-- `saved::put_rows` meets its contract: the rows in use among those before a row stand behind the head.
use Rattle.std.proofs.Common.{◌≡◌, ◌+◌, ◌-◌, ◌≤◌, length, get_or, sym, arith, rules}
use Rattle.std.proofs.lemmas.Slice.{put_mid-paste}
use Rattle.held.specs.Holding.{bytes_of, rows_of}
use Rattle.held.proofs.Turns.{no_digest, row_of, rows_long}
use Rattle.saved.proofs.Turns.{put_start, put_fits, put_used, put_free, put_long, put_end}
use Rattle.saved.proofs.put_rows.Goals as goal
use Rattle.saved.proofs.put_rows.Goals.{then-bits-eq1, else-bits-eq1}

pub loop-row-init : goal.loop-row-init
loop-row-init c =
    let a = c.args in
    put_start a.out.now (rows_of a.rows.now) a.count.0 (rows_long a.rows.now (search rules)) c.requires.1

pub slice_bounds-copy_from_slice-end : goal.slice_bounds-copy_from_slice-end
slice_bounds-copy_from_slice-end c =
    let l = c.loop-row in
    let room : l.at + 32 ≤ length l.out = omega (arith, put_fits _ _ _ l.out l.bits l.at l.row-index l.invariant) in
    search rules

pub loop-row-preserved : goal.loop-row-preserved
loop-row-preserved c =
    let l = c.loop-row in
    let rows = c.args.rows.now in
    let row = bytes_of (get_or rows l.row-index no_digest) in
    elim c.if-bits-eq1.branch [
      | then-bits-eq1 w ↦
          let whole : length row ≡ 32 = search rules in
          rw w.out-is
          (put_used _ _ _ l.out l.bits l.at l.row-index l.invariant (omega arith) row _ (sym (row_of rows l.row-index)) whole (omega (arith, w.if-bits-eq1.true))
          (put_mid-paste l.at (l.at + 32 - l.at) l.out w.copy_from_slice.new.self row 32 w.copy_from_slice.ensures.after (omega arith) (sym whole)))
      | else-bits-eq1 w ↦ rw w.out-is (put_free _ _ _ l.out l.bits l.at l.row-index l.invariant (omega arith) (λ e. w.if-bits-eq1.false (omega (arith, e))))
    ]

pub returns : goal.returns
returns c =
    let i = c.loop-row.invariant in
    (put_end _ _ _ _ _ _ _ i (omega arith) c.requires.0, put_long _ _ _ _ _ _ _ i (omega arith) c.requires.0)
