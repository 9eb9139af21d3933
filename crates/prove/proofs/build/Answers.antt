-- `prove::build` meets its contract: each return fixes the tests of the definition up to it, and the way is the proof.
use Rattle.std.proofs.Common.{rules, List, ◌≡◌, refl, sym, ap, ap₂, ◌∙◌, Bool, true, false, not, ℕ, ◌*◌, arith, length}
use Rattle.std.specs.Prelude.{Result, Err}
use mathlib.Core.Bool.{beq}
use borrow.Author.Tests.{lt-ltb, le-ltb}
use Rattle.lists.specs.Bytes.{Bytes}
use Rattle.hash.specs.Hash.{hash_of}
use Rattle.rules.specs.Calls.{Written, written, gives, over}
use Rattle.dictionary.specs.Handles.{is, handle, rows_of, flat, listed, has}
use Rattle.dictionary.specs.Calls.{is_present, proof_of}
use Rattle.dictionary.proofs.Answers.{prove_is}
use Rattle.trie.specs.Tidy.{Tidy, tidy_all}
use Rattle.prove.specs.declared.ProveError.{ProveError}
use Rattle.prove.specs.declared.ProveError.TheVariants.{KeyTooLong}
use Rattle.prove.specs.Told.{built_told}
use Rattle.prove.proofs.Ways.{way_over, sized}
use Rattle.prove.proofs.build.Goals as goal
use Rattle.prove.proofs.build.Goals.{After-has_handle, After-siblings-size, Else-not-listed}

-- ---- what each passed test says, at the place behind it

may : (c : Else-not-listed) → listed c.args.handles.now ≡ true
may c = sym c.listed.ensures ∙ c.if-not-listed.false

tidy : (c : Else-not-listed) → Tidy 256 c.args.handles.now
tidy c = tidy_all _ (λ i. (c.type_inv.handles i).fits) (may c)

-- whether the asked kind is true
asked : (p b : Bool) → is p b ≡ not (not (beq b p))
asked true true = refl
asked true false = refl
asked false true = refl
asked false false = refl

kind : (c : After-has_handle) → let a = c.args in is a.present (is_present hash_of a.handles.now a.key.now) ≡ not (not (beq c.has_handle.result a.present))
kind c =
    let a = c.args in
    ap (is a.present) (sym (c.has_handle.ensures ∙ ap (λ (k : Bytes). has k (rows_of a.handles.now)) c.handle_for-handle.ensures))
    ∙ asked a.present c.has_handle.result

way_is : (c : After-siblings-size) → let a = c.args in way_over 256 c.handle_for-handle.result.bytes a.handles.now ≡ way_over 256 (handle hash_of a.key.now) a.handles.now
way_is c = ap (λ (k : Bytes). way_over 256 k c.args.handles.now) c.handle_for-handle.ensures

size : (c : After-siblings-size) → let a = c.args in 32 * c.siblings-size.result ≡ length (proof_of hash_of a.handles.now a.key.now)
size c = let a = c.args in sized (handle hash_of a.key.now) a.handles.now c.siblings-size.result (c.siblings-size.ensures.0 ∙ ap length (way_is c))

pub returns-in_err-within_limit : goal.returns-in_err-within_limit
returns-in_err-within_limit c =
    let r : c.from_residual.result ≡ Err KeyTooLong = search rules in
    ap (λ (a : Result ℕ ProveError). written (built_told a) c.args.out.now) r ∙ sym (prove_is hash_of _ _ _ c.in_err-within_limit.ensures.err refl refl refl)

pub returns-then-not-listed : goal.returns-then-not-listed
returns-then-not-listed c = sym (prove_is hash_of _ _ _ c.in_ok-within_limit.ensures.ok (sym c.listed.ensures ∙ c.if-not-listed.true) refl refl)

pub has_handle-requires : goal.has_handle-requires
has_handle-requires c = (tidy (goal.at.has_handle-requires c).Else-not-listed).whole

pub returns-then-has_handle-present : goal.returns-then-has_handle-present
returns-then-has_handle-present c =
    let s = goal.at.returns-then-has_handle-present c in
    sym (prove_is hash_of _ _ _ c.in_ok-within_limit.ensures.ok (may s.Else-not-listed) (kind s.After-has_handle ∙ ap not c.if-has_handle-present.true) refl)

pub siblings-size-requires : goal.siblings-size-requires
siblings-size-requires c = (tidy (goal.at.siblings-size-requires c).Else-not-listed, omega arith)

pub returns-then-out-size : goal.returns-then-out-size
returns-then-out-size c =
    let s = goal.at.returns-then-out-size c in
    sym (prove_is hash_of _ _ _ c.in_ok-within_limit.ensures.ok (may s.Else-not-listed) (kind s.After-has_handle ∙ ap not c.if-has_handle-present.false)
    (lt-ltb (length c.args.out.now) (length (proof_of hash_of c.args.handles.now c.args.key.now)) (omega (arith, c.if-out-size.true, size s.After-siblings-size))))

pub put_way-requires : goal.put_way-requires
put_way-requires c = (tidy (goal.at.put_way-requires c).Else-not-listed, omega arith, omega (arith, c.if-out-size.false, c.siblings-size.ensures.0))

pub returns : goal.returns
returns c =
    let a = c.args in
    let s = goal.at.returns c in
    let z = size s.After-siblings-size in
    ap₂ {A = ℕ} {B = Bytes} {C = Written} (λ m o. written (gives m) o) z
    (c.put_way.ensures ∙ ap (λ (w : List Bytes). over (flat w) a.out.now) (way_is s.After-siblings-size))
    ∙ sym (prove_is hash_of a.handles.now a.key.now a.out.now c.in_ok-within_limit.ensures.ok (may s.Else-not-listed) (kind s.After-has_handle ∙ ap not c.if-has_handle-present.false)
    (le-ltb (length a.out.now) (length (proof_of hash_of a.handles.now a.key.now)) (omega (arith, c.if-out-size.false, z))))
