-- `membership::follow` meets its contract: the loop's invariant is `Stands`, what is left of the walk decides.
use mathlib.Core.Path.{sym, ap, ◌∙◌}
use Prim.Native.Nat.{◌+◌, ◌<◌}
use native.Mathlib.Omega.{arith}
use Rattle.std.proofs.lemmas.Bool.{not-true, not-false}
use Rattle.membership.specs.Verdicts.{verdict_of}
use Rattle.membership.proofs.Walking.{Stands, room, refuses, goes_on, settles}
use Rattle.membership.proofs.follow.Goals as goal
use Rattle.membership.proofs.follow.Goals.{After-state-1}

on : (c : After-state-1) →
    let a = c.args in
    let l = c.loop-state in
    let w = c.take_hop-r.result.state in
    Stands a.n.0 a.proof.now a.digest.bytes a.start w (l.hops + 1) × (l.state.at.0 < w.at.0)
on c =
    let l = c.loop-state in
    let r = c.take_hop-r in
    goes_on _ _ _ _ l.state l.hops l.invariant c.loop-state-test.true r.result r.ensures c.in-Good.is

pub take_hop-r-requires : goal.take_hop-r-requires
take_hop-r-requires c =
    let l = c.loop-state in
    (c.loop-state-test.true, room _ _ _ _ l.state l.hops l.invariant c.loop-state-test.true)

pub returns-in_default : goal.returns-in_default
returns-in_default c =
    let l = c.loop-state in
    let r = c.take_hop-r in
    ap verdict_of c.verdict_by.ensures
    ∙ refuses _ _ _ _ l.state l.hops l.invariant c.loop-state-test.true r.result r.ensures c.in_default.not-Good

pub loop-state-smaller : goal.loop-state-smaller
loop-state-smaller c = let s = on (goal.at.loop-state-smaller c).After-state-1 in omega (arith, s.1, s.0.high)

pub loop-state-preserved : goal.loop-state-preserved
loop-state-preserved c = (on (goal.at.loop-state-preserved c).After-state-1).0

pub returns-then-ne : goal.returns-then-ne
unfolding verdict_of
returns-then-ne c =
    let l = c.loop-state in
    settles _ _ _ _ l.state l.hops l.invariant c.loop-state-test.false _ (not-true _ (sym c.ne.ensures ∙ c.if-ne.true))

pub returns : goal.returns
unfolding verdict_of
returns c =
    let l = c.loop-state in
    settles _ _ _ _ l.state l.hops l.invariant c.loop-state-test.false _ (not-false _ (sym c.ne.ensures ∙ c.if-ne.false))
