-- `advancement::take_hop` meets its contract: its two tests are those of the hop, in its order.
use Rattle.std.proofs.Common.{◌≡◌, Bool, List, ℕ, ◌+◌, ◌^◌, None, refl, sym, ap, ap₂, ◌∙◌, add-one, arith}
use Rattle.lists.specs.Bytes.{Bytes, same}
use Rattle.rules.specs.Numbers.{v1}
use Rattle.hash.specs.Hash.{hash_of}
use Rattle.rules.specs.Messages.{element_msg, row}
use Rattle.rules.specs.Checking.{rows_after}
use Rattle.rules.proofs.Hops.{hop_tz}
use Rattle.held.specs.Holding.{holds}
use Rattle.advancement.specs.declared.Hop.TheVariants.{Good, Row, Link}
use Rattle.messages.specs.Parts.{size_short}
use Rattle.advancement.specs.Advancing.{Step, hop_of, hop_by, hop_is}
use Rattle.advancement.proofs.take_hop.Goals as goal
use Rattle.advancement.proofs.take_hop.Goals.{After-row_is}

past : (c : After-row_is) {b : Bool} → c.row_is.result ≡ b →
    let a = c.args in
    hop_of (holds a.h.now) a.by.level a.component.now ≡ hop_by (holds a.h.now) a.by.level a.component.now None b
past c e =
    let a = c.args in
    hop_is (holds a.h.now) a.by.level a.component.now (sym c.compare_rows.ensures ∙ c.in_default.is)
    (ap (λ (r : ℕ). same (row v1 a.component.now r) a.h.now.digest.bytes) (sym (add-one a.by.level)) ∙ sym c.row_is.ensures ∙ e)

pub returns-in-Some : goal.returns-in-Some
returns-in-Some c =
    let row = c.in-Some.row in
    ap (λ (to : ℕ). record { verdict = Row to row; state = holds c.args.h.now }) c.requires.ends
    ∙ sym (hop_is (holds c.args.h.now) c.args.by.level c.args.component.now (sym c.compare_rows.ensures ∙ c.in-Some.is) refl)

pub row_is-requires : goal.row_is-requires
row_is-requires c =
    omega (arith, c.requires.long, hop_tz c.args.h.now.count.0 c.args.by.level (omega (arith, c.requires.small)) c.requires.divides)

pub returns-then-not-row_is : goal.returns-then-not-row_is
returns-then-not-row_is c =
    ap₂ (λ (to level : ℕ). record { verdict = Link to level; state = holds c.args.h.now }) c.requires.ends c.from.ensures
    ∙ sym (past (goal.at.returns-then-not-row_is c).After-row_is (c.if-not-row_is.true))

pub element_digest-requires : goal.element_digest-requires
element_digest-requires c =
    omega (arith, c.requires.long, size_short (c.args.h.now.count.0 + 2 ^ c.args.by.level))

pub returns : goal.returns
returns c =
    let h = holds c.args.h.now in
    let x = c.args.component.now in
    let there : ℕ → Bytes → List Bytes → Step = λ to d rows. record { verdict = Good; state = record { log = h.log; count = to; digest = d; rows = rows } } in
    ap₂ (λ (d : Bytes) (rows : List Bytes). there c.args.by.to.0 d rows) c.element_digest.ensures c.carry.ensures
    ∙ ap (λ (to : ℕ). there to (hash_of (element_msg to x)) (rows_after c.args.by.level h)) c.requires.ends
    ∙ sym (past (goal.at.returns c).After-row_is (c.if-not-row_is.false))
