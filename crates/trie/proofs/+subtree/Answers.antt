-- `trie::subtree` meets its contract: the node over its two sides.
use Rattle.std.proofs.Common.{◌≡◌, ℕ, sym, ◌∙◌, drop, ◌∷◌}
use Rattle.dictionary.specs.Handles.{rows_of}
use Rattle.trie.proofs.Nodes.{no_rows, first_row, node_empty, node_leaf, node_inner}
use Rattle.trie.proofs.+subtree.Goals as goal
use Rattle.trie.proofs.+subtree.Goals.{In-Some}

-- the rows, of which the first was found
some_rows : (t : ℕ) (c : In-Some t) → rows_of c.args.handles.now ≡ c.in-Some.first.now ∷ drop 1 (rows_of c.args.handles.now)
some_rows t c = rw (sym c.rows.ensures) (first_row c.rows.result.now c.in-Some.first.now c.in-Some.ensures.value)

pub returns-in_default : goal.returns-in_default
returns-in_default t c = node_empty _ _ (sym c.rows.ensures ∙ no_rows c.rows.result.now c.in_default.ensures.value)

pub returns-then-e-eq0 : goal.returns-then-e-eq0
returns-then-e-eq0 t c = c.leaf.ensures ∙ node_leaf _ (rows_of c.args.handles.now) _ _ c.if-e-eq0.true (some_rows t (goal.at.returns-then-e-eq0 t c).In-Some)

pub returns : goal.returns
returns t c =
    let a = c.args in
    c.inner_digest.ensures
    ∙ node_inner a.e a.handles.now _ _ _ _ _ _ c.if-e-eq0.false (some_rows t (goal.at.returns t c).In-Some)
    c.sides.ensures.zeros c.sides.ensures.ones c.subtree-left.ensures c.subtree-right.ensures
