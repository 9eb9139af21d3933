-- `held::carry` meets its contract: the carry into the rows from a row up, with what moves, comes to the same at each turn.
use Rattle.std.proofs.Common.{List, ◌/◌, ◌^◌, ◌++◌, take, sym, ap, ◌∙◌, arith, rules}
use Rattle.std.proofs.lemmas.List.{map-set, length-map}
use Rattle.lists.specs.Bytes.{Bytes}
use Rattle.rules.specs.Checking.{carried}
use Rattle.held.specs.Holding.{bytes_of, rows_of}
use Rattle.held.proofs.Turns.{is_used, is_free, upper, spliced, carry_stop, carry_turn, carry_end}
use Rattle.held.proofs.carry.Goals as goal

pub loop-row-init : goal.loop-row-init
loop-row-init c =
    let h = c.args.h.now in
    ap (λ (rs : List Bytes). carried (h.count.0 / 2 ^ c.args.level) rs h.digest.bytes) (sym (upper h.rows c.args.level c.min-from.result (search rules) c.min-from.ensures))

pub returns-then-bits-eq0 : goal.returns-then-bits-eq0
returns-then-bits-eq0 c =
    let h = c.args.h.now in
    let l = c.loop-row in
    spliced h.rows c.args.level c.min-from.result (search rules) c.min-from.ensures _
    ∙ ap (λ (rs : List Bytes). take c.args.level (rows_of h.rows) ++ rs)
    (map-set bytes_of l.row-items l.row-index l.moving
    ∙ sym (l.invariant ∙ carry_stop (rows_of l.row-items) l.row-index (omega (arith, length-map l.row-items bytes_of)) l.bits l.moving.bytes (is_free l.bits c.if-bits-eq0.true)))

pub loop-row-preserved : goal.loop-row-preserved
loop-row-preserved c =
    let l = c.loop-row in
    let e = c.replace-moving.ensures in
    rw (e.value, e.after)
    (l.invariant ∙ carry_turn l.row-items l.row-index l.bits l.moving.bytes (omega (arith, length-map l.row-items bytes_of)) (is_used l.bits c.if-bits-eq0.false))

pub returns : goal.returns
returns c =
    let h = c.args.h.now in
    let l = c.loop-row in
    spliced h.rows c.args.level c.min-from.result (search rules) c.min-from.ensures _
    ∙ ap (λ (rs : List Bytes). take c.args.level (rows_of h.rows) ++ rs)
    (sym (l.invariant ∙ carry_end (rows_of l.row-items) l.row-index (omega (arith, length-map l.row-items bytes_of)) l.bits l.moving.bytes))
