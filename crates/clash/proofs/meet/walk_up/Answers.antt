-- `clash::meet::walk_up` meets its contract: at each turn both nodes at the depth reached, and what was found from there down.
use mathlib.Core.Path.{◌≡◌, ap, ◌∙◌}
use Prim.Native.Nat.{ℕ, suc, ◌-◌, ◌≤◌, ◌<◌}
use native.Mathlib.Omega.{arith}
use lib.ListN.{drop}
use Rattle.lists.specs.Bytes.{zeros}
use Rattle.hash.specs.Hash.{hash_of}
use Rattle.dictionary.specs.Handles.{rows_of}
use Rattle.dictionary.specs.Trie.{leaf_msg}
use Rattle.dictionary.specs.Meeting.{meeting}
use Rattle.lookup.specs.Climbing.{depth_of, node_at, at_bottom, up_one}
use Rattle.clash.proofs.Meets.{full_sized, begins, meet_step}
use Rattle.clash.proofs.meet.walk_up.Goals as goal
use Rattle.clash.proofs.meet.walk_up.Goals.{In-loop-depth}

-- no depth is below the leaves
deep : (c : In-loop-depth) → c.loop-depth.depth ≤ 256
deep c = omega (arith, c.loop-depth.invariant.below, c.requires.1.most)

pub climb-full-requires : goal.climb-full-requires
climb-full-requires c = let e = c.requires.0 in (full_sized _ e, omega (arith, c.requires.1.most))

pub full_message-found-requires : goal.full_message-found-requires
full_message-found-requires c = (c.requires.0, omega (arith, c.requires.1.most))

pub loop-depth-init : goal.loop-depth-init
loop-depth-init c = begins c.args.key.bytes c.args.presence.now c.args.absence.now _ _ _ c.leaf.ensures c.climb-full.ensures (at_bottom _ c.args.absence.now _) c.full_message-found.ensures

pub loop-depth-preserved : goal.loop-depth-preserved
loop-depth-preserved c =
    let l = c.loop-depth in
    let s = l.invariant in
    let t = c.loop-depth-test.true in
    let m = deep (goal.at.loop-depth-preserved c).In-loop-depth in
    let w = s.below in
    let p = c.args.presence.now in
    let q = c.args.absence.now in
    let k = c.args.key.bytes in
    let d = l.depth - 1 in
    let e : l.depth ≡ suc d = omega arith in
    let zp = full_sized p c.requires.0 in
    let hp : d < depth_of p = let x = c.requires.0 in omega arith in
    let hq : d < depth_of q = omega arith in
    let ef = s.full_is ∙ ap (node_at k p (hash_of (leaf_msg k))) e in
    let ee = s.empty_is ∙ ap (node_at k q zeros) e in
    record {
      below = omega arith;
      full_is = c.digest_of-full.ensures ∙ ap hash_of c.crossing-a.ensures ∙ up_one k p _ _ _ d zp hp c.sibling_at.ensures ef;
      empty_is = c.digest_of-empty.ensures ∙ ap hash_of c.crossing-b.ensures ∙ up_one k q _ _ _ d c.requires.1 hq c.sibling_at-in-loop-depth.ensures ee;
      found = c.compare-found.ensures
          ∙ meet_step k p q _ _ _ _ _ _ d _ zp c.requires.1 hp hq ef ee c.sibling_at.ensures c.sibling_at-in-loop-depth.ensures
          c.crossing-a.ensures c.crossing-b.ensures (s.found ∙ ap (λ (n : ℕ). meeting hash_of (256 - n) k (drop n (rows_of p)) (drop n (rows_of q))) e);
    }

pub returns : goal.returns
returns c =
    let a = c.args in
    let l = c.loop-depth in
    let e : l.depth ≡ 0 = omega (arith, c.loop-depth-test.false) in
    l.invariant.found ∙ ap (λ (n : ℕ). meeting hash_of (256 - n) a.key.bytes (drop n (rows_of a.presence.now)) (drop n (rows_of a.absence.now))) e
