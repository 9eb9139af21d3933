-- `advancement::check_advancement` meets its contract: the checks 2, 4 and 7 in this order, then the walk.
use mathlib.Core.Path.{◌≡◌, refl, sym, ap, ◌∙◌}
use mathlib.Core.Bool.{Bool, true, false, cond}
use Prim.Native.Nat.{ℕ}
use native.Mathlib.Omega.{arith}
use borrow.Author.Tests.{eq-eqb, ne_eqb}
use lib.Dec.{eqb}
use lib.ListN.{length}
use Rattle.lists.specs.Bytes.{Bytes}
use Rattle.hash.specs.Hash.{hash_of}
use Rattle.rules.specs.Numbers.{v1}
use Rattle.rules.specs.Paths.{hops, path_after}
use Rattle.rules.specs.Messages.{total}
use Rattle.rules.specs.Refusals.{state_broken, no_such_number, wrong_length}
use Rattle.rules.specs.Held.{Held, is_in_order}
use Rattle.rules.specs.Checking.{must, upward, advance_walk}
use Rattle.rules.specs.Calls.{advance_answer, advance_call}
use Rattle.rules.proofs.Verdicts.{upward_true}
use Rattle.rules.proofs.Walking.{advance_is}
use Rattle.held.specs.Holding.{holds}
use Rattle.advancement.proofs.check_advancement.Goals as goal
use Rattle.advancement.proofs.check_advancement.Goals.{After-advancement_len, Else-not-ahead, Else-not-is_in_order, Else-proof-advancement_len, Then-proof-advancement_len}

-- the outcome by what the tests give
by_tests : (h : Held) (n : ℕ) (D p : Bytes) {b2 b4 b7 : Bool} → is_in_order hash_of v1 h ≡ b2 → upward v1 h.count n ≡ b4
    → eqb (length p) (total v1 (path_after h.count n)) ≡ b7
    → advance_call hash_of v1 h n D p ≡ advance_answer h (must b2 state_broken 0 (must b4 no_such_number 0 (must b7 wrong_length 0 (advance_walk hash_of v1 h (hops h.count n) p 0 D 0))))
by_tests h n D p e2 e4 e7 = ap (advance_answer h) (advance_is hash_of v1 h n D p e2 e4 e7)

in_order : (c : Else-not-is_in_order) → is_in_order hash_of v1 (holds c.args.held.now) ≡ true
in_order c = sym c.is_in_order.ensures ∙ c.if-not-is_in_order.false

ahead : (c : Else-not-ahead) → let a = c.args in upward v1 a.held.now.count.0 a.n.0 ≡ true
ahead c = sym c.ahead.ensures ∙ c.if-not-ahead.false

-- the length that the code compares is the path's
right : (c : After-advancement_len) → let a = c.args in
    c.advancement_len.result ≡ total v1 (path_after a.held.now.count.0 a.n.0)
right c =
    let a = c.args in
    c.advancement_len.ensures ∙ ap (λ (b : Bool). cond b (total v1 (path_after a.held.now.count.0 a.n.0)) 0) (ahead (goal.at.After-advancement_len c).Else-not-ahead)

missized : (c : Then-proof-advancement_len) → let a = c.args in
    eqb (length a.proof.now) (total v1 (path_after a.held.now.count.0 a.n.0)) ≡ false
missized c =
    let a = c.args in
    ne_eqb (length a.proof.now) (total v1 (path_after a.held.now.count.0 a.n.0)) (λ e. omega (arith, c.if-proof-advancement_len.true, right (goal.at.Then-proof-advancement_len c).After-advancement_len))

sized : (c : Else-proof-advancement_len) → let a = c.args in
    length a.proof.now ≡ total v1 (path_after a.held.now.count.0 a.n.0)
sized c = omega (arith, c.if-proof-advancement_len.false, right (goal.at.Else-proof-advancement_len c).After-advancement_len)

pub returns-then-not-is_in_order : goal.returns-then-not-is_in_order
returns-then-not-is_in_order c =
    let a = c.args in
    sym (by_tests (holds a.held.now) a.n.0 a.digest.bytes a.proof.now (sym c.is_in_order.ensures ∙ c.if-not-is_in_order.true) refl refl)

pub returns-then-not-ahead : goal.returns-then-not-ahead
returns-then-not-ahead c =
    let a = c.args in
    sym (by_tests (holds a.held.now) a.n.0 a.digest.bytes a.proof.now (in_order (goal.at.returns-then-not-ahead c).Else-not-is_in_order) (sym c.ahead.ensures ∙ c.if-not-ahead.true) refl)

pub returns-then-proof-advancement_len : goal.returns-then-proof-advancement_len
returns-then-proof-advancement_len c =
    let a = c.args in
    sym (by_tests (holds a.held.now) a.n.0 a.digest.bytes a.proof.now (in_order (goal.at.returns-then-proof-advancement_len c).Else-not-is_in_order) (ahead (goal.at.returns-then-proof-advancement_len c).Else-not-ahead) (missized (goal.at.returns-then-proof-advancement_len c).Then-proof-advancement_len))

pub follow-requires : goal.follow-requires
follow-requires c =
    let a = c.args in
    let u = upward_true v1 a.held.now.count.0 a.n.0 (ahead (goal.at.follow-requires c).Else-not-ahead) in
    (u.0, u.1, sized (goal.at.follow-requires c).Else-proof-advancement_len)

pub returns : goal.returns
returns c =
    let a = c.args in
    c.follow.ensures
    ∙ sym (by_tests (holds a.held.now) a.n.0 a.digest.bytes a.proof.now (in_order (goal.at.returns c).Else-not-is_in_order) (ahead (goal.at.returns c).Else-not-ahead) (eq-eqb _ _ (sized (goal.at.returns c).Else-proof-advancement_len)))
