-- `build::membership` meets its contract: each return fixes the tests of the definition up to it, and the component of i, with what stands
-- behind it on the path, is the proof.
use mathlib.Core.Path.{◌≡◌, sym, ap₂, ◌∙◌}
use Prim.Native.Nat.{ℕ, ◌≤◌}
use native.Mathlib.Omega.{arith}
use Rattle.std.proofs.lemmas.Result.{err_from_is_err_and}
use Rattle.lists.specs.Bytes.{Bytes}
use Rattle.hash.specs.Hash.{hash_of, hash_length}
use Rattle.rules.specs.Numbers.{v1}
use Rattle.rules.specs.Paths.{path}
use Rattle.rules.specs.Messages.{total}
use Rattle.rules.specs.Calls.{Written, written, gives}
use Rattle.rules.proofs.Verdicts.{between_test}
use Rattle.rules.proofs.Bounds.{total_first}
use Rattle.rules.proofs.Answers.{build_damaged, build_unasked, build_short, build_done}
use Rattle.store.proofs.Laws.{InOrder, in_order, broken}
use Rattle.build.specs.Parts.{membership_in}
use Rattle.build.proofs.Asking.{Covers, covers, uncovered, size_told, start_unasked, element_asked}
use Rattle.build.proofs.Writing.{membership_written}
use Rattle.build.proofs.membership.Goals as goal
use Rattle.build.proofs.membership.Goals.{After-membership_len-size, Else-i-eq0, Else-not-covers, In_ok-count}

-- ---- what each passed test says, at the place behind it

counted : (c : In_ok-count) → InOrder c.args.store.now c.in_ok-count.count
counted c = in_order c.args.store.now c.count.result c.in_ok-count.count c.count.ensures c.in_ok-count.was

known : (c : Else-not-covers) → let a = c.args in Covers a.store.now a.i.0 a.n.0
known c = covers _ _ (counted (goal.at.Else-not-covers c).In_ok-count) _ _ _ c.covers.ensures c.if-not-covers.false

low : (c : Else-i-eq0) → 1 ≤ c.args.i.0
low c = omega (arith, c.if-i-eq0.false)

sized : (c : After-membership_len-size) → let a = c.args in c.membership_len-size.result ≡ total v1 (path a.i.0 a.n.0)
sized c = let k = known (goal.at.After-membership_len-size c).Else-not-covers in size_told c.membership_len-size.ensures (between_test v1 _ _ (low (goal.at.After-membership_len-size c).Else-i-eq0) k.up k.few)

pub returns-in_err-count : goal.returns-in_err-count
returns-in_err-count c =
    let a = c.args in
    let s = a.store.now in
    let p = err_from_is_err_and c.from_residual.result c.from_residual.ensures.1 in
    rw (p.1, p.2) (sym (build_damaged v1 s _ _ _ a.out.now (broken s c.count.result _ c.count.ensures c.in_err-count.was)))

pub returns-then-i-eq0 : goal.returns-then-i-eq0
returns-then-i-eq0 c =
    let a = c.args in
    sym (build_unasked v1 a.store.now _ _ _ a.out.now (counted (goal.at.returns-then-i-eq0 c).In_ok-count).sound (start_unasked a.i.0 _ c.if-i-eq0.true))

pub returns-then-not-covers : goal.returns-then-not-covers
returns-then-not-covers c =
    let a = c.args in
    let k = counted (goal.at.returns-then-not-covers c).In_ok-count in
    sym (build_unasked v1 a.store.now _ _ _ a.out.now k.sound
    (element_asked a.i.0 _ _ c.if-i-eq0.false (uncovered _ _ k a.i.0 a.n.0 _ c.covers.ensures c.if-not-covers.true)))

pub returns-then-out-size : goal.returns-then-out-size
returns-then-out-size c =
    let a = c.args in
    let k = known (goal.at.returns-then-out-size c).Else-not-covers in
    sym (build_short v1 a.store.now _ _ _ a.out.now k.sound (element_asked a.i.0 _ _ c.if-i-eq0.false k.test) (omega (arith, c.if-out-size.true, sized (goal.at.returns-then-out-size c).After-membership_len-size)))

pub put_component-requires : goal.put_component-requires
put_component-requires c =
    let a = c.args in
    let k = known (goal.at.put_component-requires c).Else-not-covers in
    let first = total_first v1 a.i.0 a.n.0 in
    (low (goal.at.put_component-requires c).Else-i-eq0, k.fits a.i.0 k.up, omega (arith, k.up, k.few), omega (arith, c.if-out-size.false, sized (goal.at.put_component-requires c).After-membership_len-size))

pub put_after-requires : goal.put_after-requires
put_after-requires c =
    let a = c.args in
    let k = known (goal.at.put_after-requires c).Else-not-covers in
    let first = total_first v1 a.i.0 a.n.0 in
    (k.up, k.few, k.fits a.n.0 (omega arith), omega (arith, c.component_len.ensures, c.if-out-size.false, sized (goal.at.put_after-requires c).After-membership_len-size))

pub returns : goal.returns
returns c =
    let a = c.args in
    let s = a.store.now in
    let k = known (goal.at.returns c).Else-not-covers in
    let put = c.put_component in
    let rest = c.put_after in
    ap₂ {A = ℕ} {B = Bytes} {C = Written} (λ m o. written (gives m) o) (sized (goal.at.returns c).After-membership_len-size)
    (membership_written hash_of hash_length v1 s a.n.0 (k.fits a.n.0 (omega arith)) a.i.0 a.out.now put.new.out rest.new.out c.component_len.result
    (low (goal.at.returns c).Else-i-eq0) k.up put.ensures c.component_len.ensures rest.ensures)
    ∙ sym (build_done v1 s _ (total v1 (path a.i.0 a.n.0)) (membership_in hash_of v1 s a.i.0 a.n.0) a.out.now k.sound
    (element_asked a.i.0 _ _ c.if-i-eq0.false k.test) (omega (arith, c.if-out-size.false, sized (goal.at.returns c).After-membership_len-size)))
