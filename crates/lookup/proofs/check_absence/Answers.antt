-- `lookup::check_absence` meets its contract: each return fixes the tests of the definition up to it.
use Rattle.std.proofs.Common.{rules, ◌≡◌, refl, sym, ap, ◌∙◌}
use Rattle.std.specs.Prelude.{Err}
use borrow.Author.Tests.{lt-leb, le-leb, eq-eqb, ne_eqb}
use Rattle.lists.specs.Bytes.{Bytes, same}
use Rattle.hash.specs.Hash.{hash_of}
use Rattle.dictionary.specs.Handles.{handle, rows_of}
use Rattle.dictionary.specs.Trie.{shown_empty}
use Rattle.dictionary.proofs.Answers.{absence_is}
use Rattle.lookup.specs.declared.LookupError.TheVariants.{KeyTooLong}
use Rattle.lookup.specs.Told.{verdict_number}
use Rattle.lookup.proofs.check_absence.Goals as goal
use Rattle.lookup.proofs.check_absence.Goals.{After-leads_to, then-proof-ne0-via-then-proof-ne0, then-proof-ne0-via-else-proof-ne0+then-proof-gt-LONGEST}

told : (c : After-leads_to) → let a = c.args in same (shown_empty hash_of (handle hash_of a.key.now) (rows_of a.proof.now)) a.root.bytes ≡ c.leads_to.result
told c =
    let a = c.args in
    sym (c.leads_to.ensures ∙ ap (λ (x : Bytes). same (shown_empty hash_of x (rows_of a.proof.now)) a.root.bytes) c.handle_for.ensures)

pub returns-in_err-within_limit : goal.returns-in_err-within_limit
unfolding verdict_number
returns-in_err-within_limit c =
    let r : c.from_residual.result ≡ Err KeyTooLong = search rules in
    ap verdict_number r ∙ sym (absence_is hash_of _ _ _ c.in_err-within_limit.ensures.err refl refl refl)

pub returns-then-proof-ne0 : goal.returns-then-proof-ne0
unfolding verdict_number
returns-then-proof-ne0 c =
    let k = c.in_ok-within_limit.ensures.ok in
    elim c.then-proof-ne0.branch [
      | then-proof-ne0-via-then-proof-ne0 w ↦ sym (absence_is hash_of c.args.key.now c.args.root.bytes c.args.proof.now k (ne_eqb _ _ w.if-proof-ne0.true) refl refl)
      | then-proof-ne0-via-else-proof-ne0+then-proof-gt-LONGEST w ↦
          sym (absence_is hash_of c.args.key.now c.args.root.bytes c.args.proof.now k (eq-eqb _ _ w.if-proof-ne0.false) (lt-leb _ _ w.if-proof-gt-LONGEST.true) refl)
    ]

pub leads_to-requires : goal.leads_to-requires
leads_to-requires c = record { whole = c.if-proof-ne0.false; most = c.if-proof-gt-LONGEST.false }

pub returns-then-not-leads_to : goal.returns-then-not-leads_to
unfolding verdict_number
returns-then-not-leads_to c =
    sym (absence_is hash_of _ _ _ c.in_ok-within_limit.ensures.ok (eq-eqb _ _ c.if-proof-ne0.false) (le-leb _ _ c.if-proof-gt-LONGEST.false)
    (told (goal.at.returns-then-not-leads_to c).After-leads_to ∙ c.if-not-leads_to.true))

pub returns : goal.returns
unfolding verdict_number
returns c =
    sym (absence_is hash_of _ _ _ c.in_ok-within_limit.ensures.ok (eq-eqb _ _ c.if-proof-ne0.false) (le-leb _ _ c.if-proof-gt-LONGEST.false)
    (told (goal.at.returns c).After-leads_to ∙ c.if-not-leads_to.false))
