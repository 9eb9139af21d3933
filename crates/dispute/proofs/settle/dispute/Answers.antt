-- `dispute::settle::dispute` meets its contract: each return is a case of the rules' outcome.
use mathlib.Core.Path.{◌≡◌}
use mathlib.Core.Bool.{Bool, true, false}
use Rattle.std.proofs.Common.{ap, ◌∙◌, not}
use Rattle.dispute.proofs.Judging.{First, Second, heard, first_short, second_short, first_refused, second_refused, settled_as, ready}
use Rattle.dispute.proofs.settle.dispute.Goals as goal
use Rattle.dispute.proofs.settle.dispute.Goals.{After-is_err, After-is_err-2, then-one_short-via-then-one_short, then-one_short-via-else-one_short+then-two_short}

-- what the rules say of each proof, by the code's test
first : (c : After-is_err) (refused : Bool) → c.is_err.result ≡ refused →
    let a = c.args in
    First a.entry1.now a.proof1.now a.entry2.now a.proof2.now a.i.0 a.n.0 a.digest.bytes a.out1.now a.out2.now ≡ not refused
first c refused e =
    let a = c.args in
    heard a.entry1.now a.i.0 a.n.0 a.digest.bytes a.proof1.now c.check_membership.result (not refused) c.check_membership.ensures (c.is_err.ensures.negation ∙ ap not e)

second : (c : After-is_err-2) (refused : Bool) → c.is_err-2.result ≡ refused →
    let a = c.args in
    Second a.entry1.now a.proof1.now a.entry2.now a.proof2.now a.i.0 a.n.0 a.digest.bytes a.out1.now a.out2.now ≡ not refused
second c refused e =
    let a = c.args in
    heard a.entry2.now a.i.0 a.n.0 a.digest.bytes a.proof2.now c.check_membership-2.result (not refused) c.check_membership-2.ensures (c.is_err-2.ensures.negation ∙ ap not e)

pub returns-then-one_short : goal.returns-then-one_short
returns-then-one_short c =
    let a = c.args in
    elim c.then-one_short.branch [
      | then-one_short-via-then-one_short w ↦
          first_short a.entry1.now a.proof1.now a.entry2.now a.proof2.now a.i.0 a.n.0 a.digest.bytes a.out1.now a.out2.now w.if-one_short.true
      | then-one_short-via-else-one_short+then-two_short w ↦
          second_short a.entry1.now a.proof1.now a.entry2.now a.proof2.now a.i.0 a.n.0 a.digest.bytes a.out1.now a.out2.now w.if-one_short.false
          w.if-two_short.true
    ]

pub returns-then-is_err : goal.returns-then-is_err
returns-then-is_err c =
    let a = c.args in
    first_refused a.entry1.now a.proof1.now a.entry2.now a.proof2.now a.i.0 a.n.0 a.digest.bytes a.out1.now a.out2.now c.if-one_short.false c.if-two_short.false (first (goal.at.returns-then-is_err c).After-is_err true c.if-is_err.true)

pub returns-then-is_err-2 : goal.returns-then-is_err-2
returns-then-is_err-2 c =
    let a = c.args in
    second_refused a.entry1.now a.proof1.now a.entry2.now a.proof2.now a.i.0 a.n.0 a.digest.bytes a.out1.now a.out2.now c.if-one_short.false c.if-two_short.false
    (first (goal.at.returns-then-is_err-2 c).After-is_err false c.if-is_err.false) (second (goal.at.returns-then-is_err-2 c).After-is_err-2 true c.if-is_err-2.true)

pub settle-requires : goal.settle-requires
settle-requires c =
    let a = c.args in
    ready a.entry1.now a.proof1.now a.entry2.now a.proof2.now a.i.0 a.n.0 a.digest.bytes a.out1.now a.out2.now c.if-one_short.false c.if-two_short.false
    (first (goal.at.settle-requires c).After-is_err false c.if-is_err.false) (second (goal.at.settle-requires c).After-is_err-2 false c.if-is_err-2.false)

pub returns : goal.returns
returns c =
    let a = c.args in
    settled_as a.entry1.now a.proof1.now a.entry2.now a.proof2.now a.i.0 a.n.0 a.digest.bytes a.out1.now a.out2.now c.if-one_short.false c.if-two_short.false
    (first (goal.at.returns c).After-is_err false c.if-is_err.false) (second (goal.at.returns c).After-is_err-2 false c.if-is_err-2.false) _ _ _ c.settle.ensures
