-- `advancement::follow` meets its contract: the walk from where it stands comes to what the whole walk comes to, hop by hop.
use Rattle.std.specs.Prelude.{ℕ, Result}
use Rattle.std.proofs.lemmas.Bool.Decides.{nat_tests}
use mathlib.Core.Bool.{Bool, true, false, not}
use Rattle.lists.specs.Bytes.{same}
use Rattle.hash.specs.Hash.{hash_of}
use Rattle.rules.specs.Paths.{hops}
use Rattle.rules.specs.Refusals.{digest_differs}
use Rattle.rules.specs.Checking.{accepted, must, advance_walk}
use Rattle.held.proofs.Turns.{same_tests}
use mathlib.Core.Path.{refl, ◌≡◌, sym, ap, ◌∙◌}
use Prim.Native.Nat.{◌+◌, ◌≤◌, ◌<◌}
use native.Mathlib.Omega.{arith}
use lib.ListN.{length}
use Rattle.rules.specs.Numbers.{v1}
use Rattle.rules.specs.Messages.{size}
use Rattle.rules.specs.Calls.{advance_answer}
use Rattle.rules.proofs.Bounds.{advancement_v1}
use Rattle.held.specs.Holding.{holds}
use Rattle.advancement.specs.declared.AdvanceError.{AdvanceError}
use Rattle.advancement.specs.Advancing.{answer_of, step_of}
use Rattle.advancement.proofs.Advancing.{Stands, begins, toward, hop_at, inside, long, ready, taken, goes_on, refuses, arrives}
use Rattle.advancement.proofs.follow.Goals as goal
use Rattle.advancement.proofs.follow.Goals.{In-loop-n, After-loop-n, After-ne, After-component_at-component, In-Good, After-take_hop-r}

-- the state is below n
below : (c : In-loop-n) → c.loop-n.state.count.0 < c.args.n.0
below c = let e = c.lt.ensures in let t = c.loop-n-test.true in grind (arith, nat_tests)

-- and at last it is not
past : (c : After-loop-n) → c.args.n.0 ≤ c.loop-n.state.count.0
past c = let e = c.lt.ensures in let t = c.loop-n-test.false in grind (arith, nat_tests)

-- the hop taken is the walk's next one
hop_here : (c : After-take_hop-r) →
    step_of c.take_hop-r.result ≡ hop_at c.args.n.0 c.args.proof.now (holds c.loop-n.state) c.loop-n.next
hop_here c =
    taken c.loop-n.invariant (below (goal.at.After-take_hop-r c).In-loop-n) c.hop-by.ensures.0 c.hop-by.ensures.1 c.component_at-component.ensures c.take_hop-r.ensures

-- the next component begins where this one ends, inside the proof
ends : (c : After-component_at-component) →
    (length c.component_at-component.result.now ≡ size v1 (toward (holds c.loop-n.state) c.args.n.0))
    × (c.loop-n.next + length c.component_at-component.result.now ≤ length c.args.proof.now)
ends c =
    let i = c.loop-n.invariant in
    let k = long i (below (goal.at.After-component_at-component c).In-loop-n) c.hop-by.ensures.0 c.hop-by.ensures.1 c.component_at-component.ensures in
    (k, rw k (inside i (below (goal.at.After-component_at-component c).In-loop-n)))

-- after a good hop
onward : (c : In-Good) →
    let a = c.args in
    let h = holds c.take_hop-r.result.state in
    Stands a.n.0 a.proof.now a.digest.bytes (holds a.held.now) h (c.loop-n.next + size v1 (toward (holds c.loop-n.state) a.n.0)) (c.loop-n.hops + 1)
    × (c.loop-n.state.count.0 < h.count)
onward c =
    goes_on c.loop-n.invariant (below (goal.at.In-Good c).In-loop-n) (hop_here (goal.at.In-Good c).After-take_hop-r) c.in-Good.is

pub loop-n-init : goal.loop-n-init
loop-n-init c = begins c.args.n.0 c.args.proof.now c.args.digest.bytes (holds c.args.held.now) c.requires.0 c.requires.2

pub hop-by-requires : goal.hop-by-requires
hop-by-requires c = below c

pub component_at-component-requires : goal.component_at-component-requires
component_at-component-requires c = rw c.hop-by.ensures.1 (inside c.loop-n.invariant (below (goal.at.component_at-component-requires c).In-loop-n))

pub take_hop-r-requires : goal.take_hop-r-requires
take_hop-r-requires c =
    ready c.loop-n.invariant (below (goal.at.take_hop-r-requires c).In-loop-n) c.hop-by.ensures.0 c.hop-by.ensures.1 c.component_at-component.ensures c.requires.1

pub returns-in_default : goal.returns-in_default
returns-in_default c =
    ap (λ (v : Result ℕ AdvanceError). record { answer = answer_of v; held = holds c.args.held.now }) c.verdict_by.ensures
    ∙ sym (refuses c.loop-n.invariant (below (goal.at.returns-in_default c).In-loop-n) (hop_here (goal.at.returns-in_default c).After-take_hop-r) c.in_default.not-Good)

pub overflow_add-next : goal.overflow_add-next
overflow_add-next c =
    record { fits = omega (arith, (ends (goal.at.overflow_add-next c).After-component_at-component).1, c.requires.2, advancement_v1 c.args.held.now.count.0 c.args.n.0 c.requires.0 c.requires.1) }

pub overflow_add-hops : goal.overflow_add-hops
overflow_add-hops c = let i = c.loop-n.invariant in record { fits = omega (arith, i.few, i.low) }

pub loop-n-smaller : goal.loop-n-smaller
loop-n-smaller c = let o = onward (goal.at.loop-n-smaller c).In-Good in omega (arith, o.0.low, o.1)

pub loop-n-preserved : goal.loop-n-preserved
loop-n-preserved c = rw (ends (goal.at.loop-n-preserved c).After-component_at-component).0 (onward (goal.at.loop-n-preserved c).In-Good).0

unnot : (s b : Bool) → not s ≡ not b → s ≡ b
unnot true true e = refl
unnot true false e = sym e
unnot false true e = sym e
unnot false false e = refl

-- the whole walk, by whether the last digest is the one claimed
ended : (c : After-ne) (b : Bool) → c.ne.result ≡ not b →
    let a = c.args in
    let h = holds a.held.now in
    advance_answer h (advance_walk hash_of v1 h (hops h.count a.n.0) a.proof.now 0 a.digest.bytes 0)
    ≡ advance_answer h (must b digest_differs c.loop-n.hops (accepted (c.loop-n.hops, holds c.loop-n.state)))
ended c b e =
    let a = c.args in
    let h = holds a.held.now in
    let l = c.loop-n in
    let told = same_tests l.state.digest.bytes a.digest.bytes in
    let is : same l.state.digest.bytes a.digest.bytes ≡ b = sym told ∙ unnot _ b (sym c.ne.ensures ∙ e) in
    ap (advance_answer h)
    (arrives l.invariant (past (goal.at.After-ne c).After-loop-n) ∙ ap (λ (t : Bool). must t digest_differs l.hops (accepted (l.hops, holds l.state))) is)

pub returns-then-ne : goal.returns-then-ne
returns-then-ne c = sym (ended (goal.at.returns-then-ne c).After-ne false c.if-ne.true)

pub returns : goal.returns
returns c = sym (ended (goal.at.returns c).After-ne true c.if-ne.false)
