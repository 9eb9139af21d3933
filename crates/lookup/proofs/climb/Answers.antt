-- `lookup::climb` meets its contract: at each turn the node at the depth reached.
use Rattle.std.proofs.Common.{◌≡◌, sym, ap, ◌∙◌, suc, ◌-◌, ◌≤◌, ◌<◌, arith, List, length, get_or}
use Rattle.lists.specs.Bytes.{Bytes}
use Rattle.hash.specs.Hash.{hash_of}
use Rattle.dictionary.proofs.Rows.{rows_length}
use Rattle.lookup.specs.Climbing.{depth_of, node_at, at_bottom, up_one, row_got}
use Rattle.lookup.proofs.climb.Goals as goal
use Rattle.lookup.proofs.climb.Goals.{After-rows-siblings, In-loop-depth}

count : (c : After-rows-siblings) → length c.rows-siblings.result.now ≡ depth_of c.args.proof.now
count c = ap length c.rows-siblings.ensures ∙ rows_length (depth_of c.args.proof.now) c.args.proof.now

deep : (c : In-loop-depth) → c.loop-depth.depth ≤ depth_of c.args.proof.now
deep c = let n = count (goal.at.In-loop-depth c).After-rows-siblings in omega (arith, c.loop-depth.auto.depth)

pub loop-depth-init : goal.loop-depth-init
loop-depth-init c =
    let n = count (goal.at.loop-depth-init c).After-rows-siblings in
    (omega (arith, c.requires.1), at_bottom _ c.args.proof.now _ ∙ ap (node_at c.args.key.bytes c.args.proof.now c.args.bottom.bytes) (sym n))

pub overflow_sub-depth : goal.overflow_sub-depth
overflow_sub-depth c = let m = deep (goal.at.overflow_sub-depth c).In-loop-depth in omega (arith, c.requires.0.most)

pub loop-depth-preserved : goal.loop-depth-preserved
loop-depth-preserved c =
    let l = c.loop-depth in
    let p = c.args.proof.now in
    let e : l.depth ≡ suc (l.depth - 1) = omega (arith, c.loop-depth-test.true) in
    let h : l.depth - 1 < depth_of p = let m = deep (goal.at.loop-depth-preserved c).In-loop-depth in omega (arith, c.loop-depth-test.true) in (
      omega (arith, c.loop-depth-test.true),
      c.digest_of-own.ensures
          ∙ ap hash_of c.crossing.ensures
          ∙ up_one _ p _ _ _ (l.depth - 1) c.requires.0 h
          (ap (λ (s : List Bytes). get_or s (l.depth - 1) _) c.rows-siblings.ensures ∙ row_got p (l.depth - 1) _ h)
          (l.invariant.1 ∙ ap (node_at c.args.key.bytes p c.args.bottom.bytes) e),
    )

pub returns : goal.returns
returns c =
    let l = c.loop-depth in
    let a = c.args in
    let e : l.depth ≡ a.t = omega (arith, c.loop-depth-test.false, l.invariant.0) in
    l.invariant.1 ∙ ap (node_at a.key.bytes a.proof.now a.bottom.bytes) e
