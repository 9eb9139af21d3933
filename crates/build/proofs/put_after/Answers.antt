-- `build::put_after` meets its contract: what is still to be written, over what stands there, comes to the same at each turn.
use mathlib.Core.Path.{sym, ◌∙◌}
use native.Mathlib.Nat.{le_trans}
use native.Mathlib.Omega.{arith}
use Rattle.hash.specs.Hash.{hash_of, hash_length}
use Rattle.rules.specs.Numbers.{v1}
use Rattle.rules.proofs.Places.{place_mono}
use Rattle.build.proofs.Writing.{Hopped, hopped, advancement_step, advancement_end}
use Rattle.build.proofs.put_after.Goals as goal
use Rattle.build.proofs.put_after.Goals.{After-hop}

-- where the hop of a turn ends
turn : (c : After-hop) → Hopped v1 c.loop-j.j.0 c.args.n.0 c.hop.result.to.0
turn c = hopped v1 _ _ _ c.loop-j-test.true c.hop.ensures.1

pub put_component-requires : goal.put_component-requires
put_component-requires c =
    let a = c.args in
    let h = turn (goal.at.put_component-requires c).After-hop in
    let k = c.hop.result.to.0 in
    (omega arith, le_trans (place_mono v1 k a.n.0 h.inside) (omega arith), omega arith, omega arith)

pub loop-j-preserved : goal.loop-j-preserved
loop-j-preserved c =
    let a = c.args in
    let l = c.loop-j in
    let hop = c.hop in
    let h = turn (goal.at.loop-j-preserved c).After-hop in
    let put = c.put_component in (
      h.inside,
      omega arith,
      omega (arith, c.component_len-to.ensures),
      l.invariant.3
          ∙ advancement_step hash_of hash_length v1 a.s.now a.n.0 (omega arith) l.out put.new.out l.to l.j.0 hop.result.to.0 c.component_len-to.result (omega arith) hop.ensures.1 (omega arith)
          put.ensures c.component_len-to.ensures,
    )

pub returns : goal.returns
returns c =
    let a = c.args in
    let l = c.loop-j in
    sym (l.invariant.3 ∙ advancement_end hash_of hash_length v1 a.s.now a.n.0 (omega arith) l.out l.to l.j.0 (omega arith))
