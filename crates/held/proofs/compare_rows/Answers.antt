-- `held::compare_rows` meets its contract: what the rows from a row up say is what all of them say, as long as each was good and in use.
use Rattle.std.proofs.Common.{[], ◌∷◌, ◌++◌, ap₂, suc, ◌*◌, ◌≡◌, Bool, true, false, cond, ℕ, Some, ◌+◌, ◌/◌, ◌^◌, ◌<◌, length, get_or, drop, sym, ap, ◌∙◌, arith, rules}
use Rattle.std.proofs.lemmas.Iterator.{YieldsList-from_slice}
use Rattle.std.proofs.lemmas.Iterator.Adapters.{YieldsList-from_skip}
use Rattle.std.proofs.lemmas.Iterator.Consumers.{YieldsList-from_enumerate, YieldsList-turn, YieldsList-end}
use Rattle.std.proofs.lemmas.List.{length_push, length-map}
use Rattle.lists.specs.Bytes.{same}
use Rattle.hash.specs.declared.Digest.{Digest}
use Rattle.rules.specs.Numbers.{v1}
use Rattle.rules.specs.Messages.{row}
use Rattle.held.specs.Holding.{bytes_of, rows_of}
use Rattle.held.specs.Rows.{rows_say}
use Rattle.held.proofs.Turns.{no_digest, at_row, past_rows, is_used, is_free, rows_long, linked, reached, say_free, say_turn, say_end}
use Rattle.held.proofs.compare_rows.Goals as goal
use Rattle.held.proofs.compare_rows.Goals.{In-Some, After-row_is}

-- which row this turn has
here : (c : In-Some) →
    let k = c.args.level + length c.loop-c.yielded in
    let rows = c.args.h.now.rows in
    (k < length rows) × (c.in-Some.c ≡ k) × (c.in-Some.row.now ≡ get_or rows k no_digest)
here c =
    at_row c.args.h.now.rows c.args.level (length c.loop-c.yielded) c.in-Some.c c.in-Some.row.now
    (YieldsList-turn (YieldsList-from_skip c.args.level (YieldsList-from_enumerate (YieldsList-from_slice c.args.h.now.rows cc) cc) cc)
    c.loop-c.yielded _ c.loop-c.yielded_by _ _ (c.in-Some.c, c.in-Some.row) c.in-Some.is c.next.ensures.steps)

-- what all the rows say, by whether this one is the link
said : (c : After-row_is) (b : Bool) → c.row_is.result ≡ b →
    let a = c.args in
    let l = c.loop-c in
    let k = a.level + length l.yielded in
    let x = a.component.now in
    let rs = rows_of a.h.now.rows in
    rows_say a.level (a.h.now.count.0 / 2 ^ a.level) (drop a.level rs) x ≡ cond b (rows_say (k + 1) (l.q / 2) (drop (k + 1) rs) x) (Some k)
said c b e =
    let a = c.args in
    let l = c.loop-c in
    let k = a.level + length l.yielded in
    let x = a.component.now in
    let rows = a.h.now.rows in
    let h = here (goal.at.After-row_is c).In-Some in
    l.invariant.1
    ∙ say_turn rows k l.q x b (omega (arith, h.0, length-map rows bytes_of)) (is_used l.q c.if-q-eq0.false)
    (ap₂ (λ (n : ℕ) (d : Digest). same (row v1 x (n + 2)) d.bytes) (sym h.1) (sym h.2) ∙ sym c.row_is.ensures ∙ e)

pub returns-then-q-eq0 : goal.returns-then-q-eq0
returns-then-q-eq0 c =
    let a = c.args in
    let l = c.loop-c in
    let h = here (goal.at.returns-then-q-eq0 c).In-Some in
    sym (l.invariant.1 ∙ say_free (rows_of a.h.now.rows) (a.level + length l.yielded) (omega (arith, h.0, length-map a.h.now.rows bytes_of)) l.q a.component.now (is_free l.q c.if-q-eq0.true))

pub row_is-requires : goal.row_is-requires
row_is-requires c =
    let a = c.args in
    let l = c.loop-c in
    let k = a.level + length l.yielded in
    let h = here (goal.at.row_is-requires c).In-Some in
    let long = rows_long a.h.now.rows (search rules) in
    let few : k < 64 = omega (arith, h.0, long, length-map a.h.now.rows bytes_of) in
    omega (arith, h.1, c.requires.2, linked a.h.now.count.0 a.level l.q k c.requires.1 l.invariant.0 (is_used l.q c.if-q-eq0.false) few)

pub returns-then-not-row_is : goal.returns-then-not-row_is
returns-then-not-row_is c =
    let r = (goal.at.returns-then-not-row_is c).After-row_is in
    ap (λ (n : ℕ). Some n) (here (goal.at.After-row_is r).In-Some).1 ∙ sym (said r false c.if-not-row_is.true)

pub loop-c-preserved : goal.loop-c-preserved
loop-c-preserved c =
    let a = c.args in
    let l = c.loop-c in
    let n : a.level + length (l.yielded ++ (c.in-Some.c, c.in-Some.row) ∷ []) ≡ a.level + length l.yielded + 1 =
    omega (arith, length_push l.yielded (c.in-Some.c, c.in-Some.row)) in
    let rs = rows_of a.h.now.rows in (
      reached _ l.q (a.level + length l.yielded) l.invariant.0 (is_used l.q c.if-q-eq0.false) ∙ ap (λ (m : ℕ). suc (l.q / 2) * 2 ^ m) (sym n),
      said (goal.at.loop-c-preserved c).After-row_is true c.if-not-row_is.false
          ∙ ap (λ (m : ℕ). rows_say m (l.q / 2) (drop m rs) a.component.now) (sym n),
    )

pub returns : goal.returns
returns c =
    let a = c.args in
    let l = c.loop-c in
    let rows = a.h.now.rows in
    let end = YieldsList-end (YieldsList-from_skip a.level (YieldsList-from_enumerate (YieldsList-from_slice rows cc) cc) cc)
    l.yielded _ l.yielded_by _ _ c.in-None.is c.next.ensures.steps in
    let past = past_rows rows a.level (length l.yielded) end.1 in
    sym (l.invariant.1 ∙ say_end (rows_of rows) (a.level + length l.yielded) (omega (arith, past, length-map rows bytes_of)) l.q a.component.now)
