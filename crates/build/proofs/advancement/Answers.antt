-- `build::advancement` meets its contract: each return fixes the tests of the definition up to it, and what stands behind i on the path is the
-- proof.
use mathlib.Core.Path.{◌≡◌, sym, ap₂, ◌∙◌}
use Prim.Native.Nat.{ℕ}
use native.Mathlib.Omega.{arith}
use Rattle.std.proofs.lemmas.Result.{err_from_is_err_and}
use Rattle.lists.specs.Bytes.{Bytes}
use Rattle.hash.specs.Hash.{hash_of, hash_length}
use Rattle.rules.specs.Numbers.{v1}
use Rattle.rules.specs.Paths.{path_after}
use Rattle.rules.specs.Messages.{total}
use Rattle.rules.specs.Calls.{Written, written, gives}
use Rattle.rules.proofs.Verdicts.{upward_test}
use Rattle.rules.proofs.Answers.{build_damaged, build_unasked, build_short, build_done}
use Rattle.store.proofs.Laws.{InOrder, in_order, broken}
use Rattle.build.specs.Parts.{advancement_in}
use Rattle.build.proofs.Asking.{Covers, covers, uncovered, size_told}
use Rattle.build.proofs.Writing.{advancement_written}
use Rattle.build.proofs.advancement.Goals as goal
use Rattle.build.proofs.advancement.Goals.{After-advancement_len-size, Else-not-covers, In_ok-count}

-- ---- what each passed test says, at the place behind it

counted : (c : In_ok-count) → InOrder c.args.store.now c.in_ok-count.count
counted c = in_order c.args.store.now c.count.result c.in_ok-count.count c.count.ensures c.in_ok-count.was

known : (c : Else-not-covers) → let a = c.args in Covers a.store.now a.i.0 a.n.0
known c = covers _ _ (counted (goal.at.Else-not-covers c).In_ok-count) _ _ _ c.covers.ensures c.if-not-covers.false

sized : (c : After-advancement_len-size) → let a = c.args in c.advancement_len-size.result ≡ total v1 (path_after a.i.0 a.n.0)
sized c = let k = known (goal.at.After-advancement_len-size c).Else-not-covers in size_told c.advancement_len-size.ensures (upward_test v1 _ _ k.up k.few)

pub returns-in_err-count : goal.returns-in_err-count
returns-in_err-count c =
    let a = c.args in
    let s = a.store.now in
    let p = err_from_is_err_and c.from_residual.result c.from_residual.ensures.1 in
    rw (p.1, p.2) (sym (build_damaged v1 s _ _ _ a.out.now (broken s c.count.result _ c.count.ensures c.in_err-count.was)))

pub returns-then-not-covers : goal.returns-then-not-covers
returns-then-not-covers c =
    let a = c.args in
    let k = counted (goal.at.returns-then-not-covers c).In_ok-count in
    sym (build_unasked v1 a.store.now _ _ _ a.out.now k.sound (uncovered _ _ k a.i.0 a.n.0 _ c.covers.ensures c.if-not-covers.true))

pub returns-then-out-size : goal.returns-then-out-size
returns-then-out-size c =
    let a = c.args in
    let k = known (goal.at.returns-then-out-size c).Else-not-covers in
    sym (build_short v1 a.store.now _ _ _ a.out.now k.sound k.test (omega (arith, c.if-out-size.true, sized (goal.at.returns-then-out-size c).After-advancement_len-size)))

pub put_after-requires : goal.put_after-requires
put_after-requires c =
    let a = c.args in
    let k = known (goal.at.put_after-requires c).Else-not-covers in
    (k.up, k.few, k.fits a.n.0 (omega arith), omega (arith, c.if-out-size.false, sized (goal.at.put_after-requires c).After-advancement_len-size))

pub returns : goal.returns
returns c =
    let a = c.args in
    let s = a.store.now in
    let k = known (goal.at.returns c).Else-not-covers in
    let put = c.put_after in
    ap₂ {A = ℕ} {B = Bytes} {C = Written} (λ m o. written (gives m) o) (sized (goal.at.returns c).After-advancement_len-size)
    (advancement_written hash_of hash_length v1 s a.n.0 (k.fits a.n.0 (omega arith)) a.i.0 a.out.now put.new.out k.up put.ensures)
    ∙ sym (build_done v1 s _ (total v1 (path_after a.i.0 a.n.0)) (advancement_in hash_of v1 s a.i.0 a.n.0) a.out.now k.sound k.test
    (omega (arith, c.if-out-size.false, sized (goal.at.returns c).After-advancement_len-size)))
