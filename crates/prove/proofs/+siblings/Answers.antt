-- `prove::siblings` meets its contract: one sibling more at each step.
use Rattle.std.proofs.Common.{sym, ap, ◌∙◌, arith, length, eqb-true}
use Rattle.std.proofs.lemmas.Bool.{eqb-false}
use Rattle.trie.specs.Tidy.{filled}
use Rattle.prove.proofs.Ways.{way_none, way_bottom, way_step, count_step}
use Rattle.prove.proofs.+siblings.Goals as goal

pub returns-then-is_empty : goal.returns-then-is_empty
returns-then-is_empty t c = (sym (ap length (way_none _ _ c.args.handles.now (eqb-true _ 0 (sym c.is_empty.ensures ∙ c.if-is_empty.true)))), omega arith)

pub returns-then-e-eq0 : goal.returns-then-e-eq0
returns-then-e-eq0 t c = (sym (ap length (way_bottom _ _ c.args.handles.now c.if-e-eq0.true)), omega arith)

pub returns : goal.returns
returns t c =
    let a = c.args in
    let own = c.side_of-own.ensures in (
      count_step _
          (way_step a.e _ a.handles.now _ _ c.if-e-eq0.false (filled a.handles.now c.requires.0.whole (eqb-false _ 0 (sym c.is_empty.ensures ∙ c.if-is_empty.false))) c.key_turns.ensures own)
          c.siblings.ensures.0,
      omega (arith, c.siblings.ensures.1, c.if-e-eq0.false),
    )
