-- `clash::meet::sibling_at` meets its contract: a row of the proof.
use Rattle.std.proofs.Common.{ap, ◌∙◌, List, [], arith, length, get_or}
use Rattle.lists.specs.Bytes.{Bytes}
use Rattle.dictionary.proofs.Rows.{rows_length}
use Rattle.lookup.specs.Climbing.{depth_of, row_got}
use Rattle.clash.proofs.meet.sibling_at.Goals as goal

pub bounds-rows-depth : goal.bounds-rows-depth
bounds-rows-depth c =
    let p = c.args.proof.now in
    let n = ap length c.rows.ensures ∙ rows_length (depth_of p) p in
    omega (arith, c.requires.1, c.requires.0.whole)

pub returns : goal.returns
returns c =
    let p = c.args.proof.now in
    ap (λ (l : List Bytes). get_or l c.args.depth []) c.rows.ensures ∙ row_got p c.args.depth [] (omega (arith, c.requires.1, c.requires.0.whole))
