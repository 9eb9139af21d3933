-- `lookup::check_presence` meets its contract: each return fixes the tests of the definition up to it.
use Rattle.std.proofs.Common.{rules, ◌≡◌, refl, sym, ap, ◌∙◌, arith}
use Rattle.std.specs.Prelude.{Err}
use borrow.Author.Tests.{eq-eqb, ne_eqb}
use Rattle.lists.specs.Bytes.{Bytes, same}
use Rattle.hash.specs.Hash.{hash_of}
use Rattle.dictionary.specs.Handles.{handle, rows_of}
use Rattle.dictionary.specs.Trie.{climbed, shown_full}
use Rattle.dictionary.proofs.Answers.{presence_is}
use Rattle.lookup.specs.declared.LookupError.TheVariants.{KeyTooLong}
use Rattle.lookup.specs.Told.{verdict_number}
use Rattle.lookup.proofs.check_presence.Goals as goal
use Rattle.lookup.proofs.check_presence.Goals.{After-leads_to}

told : (c : After-leads_to) → let a = c.args in same (shown_full hash_of (handle hash_of a.key.now) (rows_of a.proof.now)) a.root.bytes ≡ c.leads_to.result
told c =
    let a = c.args in
    let p = rows_of a.proof.now in
    sym (c.leads_to.ensures
    ∙ ap (λ (x : Bytes). same (climbed hash_of 256 c.handle_for-handle.result.bytes p x) a.root.bytes) c.leaf.ensures
    ∙ ap (λ (x : Bytes). same (shown_full hash_of x p) a.root.bytes) c.handle_for-handle.ensures)

pub returns-in_err-within_limit : goal.returns-in_err-within_limit
unfolding verdict_number
returns-in_err-within_limit c =
    let r : c.from_residual.result ≡ Err KeyTooLong = search rules in
    ap verdict_number r ∙ sym (presence_is hash_of _ _ _ c.in_err-within_limit.ensures.err refl refl)

pub returns-then-proof-ne-LONGEST : goal.returns-then-proof-ne-LONGEST
unfolding verdict_number
returns-then-proof-ne-LONGEST c = sym (presence_is hash_of _ _ _ c.in_ok-within_limit.ensures.ok (ne_eqb _ _ c.if-proof-ne-LONGEST.true) refl)

pub leads_to-requires : goal.leads_to-requires
leads_to-requires c = let e = c.if-proof-ne-LONGEST.false in record { whole = omega arith; most = omega arith }

pub returns-then-not-leads_to : goal.returns-then-not-leads_to
unfolding verdict_number
returns-then-not-leads_to c =
    sym (presence_is hash_of _ _ _ c.in_ok-within_limit.ensures.ok (eq-eqb _ _ c.if-proof-ne-LONGEST.false)
    (told (goal.at.returns-then-not-leads_to c).After-leads_to ∙ c.if-not-leads_to.true))

pub returns : goal.returns
unfolding verdict_number
returns c =
    sym (presence_is hash_of _ _ _ c.in_ok-within_limit.ensures.ok (eq-eqb _ _ c.if-proof-ne-LONGEST.false) (told (goal.at.returns c).After-leads_to ∙ c.if-not-leads_to.false))
