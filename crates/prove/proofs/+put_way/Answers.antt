-- `prove::put_way` meets its contract: a sibling, and the rest of the way behind it.
use Rattle.std.proofs.Common.{ℕ, ◌≡◌, ◌∷◌, sym, ap, ◌∙◌, ◌-◌, ◌≤◌, arith, length, eqb-true, not}
use Rattle.std.proofs.lemmas.Bool.{eqb-false}
use Rattle.hash.specs.Hash.{hash_of}
use Rattle.rules.specs.Calls.{over}
use Rattle.dictionary.specs.Handles.{side, rows_of, flat}
use Rattle.dictionary.specs.Trie.{subtree}
use Rattle.trie.specs.Tidy.{filled}
use Rattle.prove.proofs.Ways.{way_over, way_none, way_bottom, way_step, way_some, put_none, put_step, node_long}
use Rattle.prove.proofs.+put_way.Goals as goal
use Rattle.prove.proofs.+put_way.Goals.{Else-is_empty, After-side_of-2}

row : (t : ℕ) (c : Else-is_empty t) → 32 ≤ length c.args.handles.now
row t c = filled c.args.handles.now c.requires.0.whole (eqb-false _ 0 (sym c.is_empty.ensures ∙ c.if-is_empty.false))

pub returns-then-is_empty : goal.returns-then-is_empty
returns-then-is_empty t c = put_none c.args.out.now _ (way_none c.args.e c.args.key.bytes c.args.handles.now (eqb-true _ 0 (sym c.is_empty.ensures ∙ c.if-is_empty.true)))

pub returns-then-e-eq0 : goal.returns-then-e-eq0
returns-then-e-eq0 t c = put_none c.args.out.now _ (way_bottom c.args.e c.args.key.bytes c.args.handles.now c.if-e-eq0.true)

pub split_at_mut-front-requires : goal.split_at_mut-front-requires
split_at_mut-front-requires t c =
    let a = c.args in
    omega (arith, c.requires.2, way_some a.e a.key.bytes a.handles.now c.if-e-eq0.false (row t (goal.at.split_at_mut-front-requires t c).Else-is_empty))

-- the sibling, and the way below it
way_is : (t : ℕ) (c : After-side_of-2 t) → let a = c.args in
    way_over a.e a.key.bytes a.handles.now ≡ subtree hash_of (a.e - 1) (side (not c.key_turns-one.result) (a.e - 1) (rows_of a.handles.now)) ∷ way_over (a.e - 1) a.key.bytes c.side_of-2.result.now
way_is t c =
    let a = c.args in
    way_step a.e a.key.bytes a.handles.now _ _ c.if-e-eq0.false (row t (goal.at.After-side_of-2 t c).Else-is_empty) c.key_turns-one.ensures c.side_of-2.ensures

pub put_way-requires : goal.put_way-requires
put_way-requires t c = (
  omega arith,
  (c.side_of-2.ensures.tidy, omega arith, omega (arith, c.requires.2, c.split_at_mut-front.ensures.back_len, ap length (way_is t (goal.at.put_way-requires t c).After-side_of-2))),
)

pub returns : goal.returns
returns t c =
    let a = c.args in
    put_step _ (way_over (a.e - 1) a.key.bytes c.side_of-2.result.now) _ a.out.now _ _ (way_is t (goal.at.returns t c).After-side_of-2) (node_long _ _)
    (c.copy_from_slice.ensures.after ∙ c.subtree-sibling.ensures ∙ ap (subtree hash_of (a.e - 1)) c.side_of.ensures.rows)
    (c.put_way.ensures ∙ ap (over (flat (way_over (a.e - 1) a.key.bytes c.side_of-2.result.now))) c.split_at_mut-front.ensures.back)
