-- `clash::show::clash` meets its contract: each return fixes the tests of the definition up to it, and what was found is shown.
use Rattle.std.proofs.Common.{◌≡◌, refl, sym, ap, ◌∙◌, true, false, ℕ, ◌≤◌, ◌<◌, eqb, length}
use Rattle.std.specs.Prelude.{Ok, Err}
use borrow.Author.Tests.{le-leb, lt-leb}
use Rattle.lists.specs.Bytes.{Bytes}
use Rattle.hash.specs.Hash.{hash_of}
use Rattle.rules.specs.Refusals.{done}
use Rattle.dictionary.specs.Handles.{rows_of}
use Rattle.dictionary.specs.Meeting.{Meets, meeting}
use Rattle.dictionary.specs.Calls.{roomy, showing, check_presence, check_absence}
use Rattle.dictionary.proofs.Answers.{clash_is}
use Rattle.dictionary.proofs.Accepted.{Full, full, Empty, empty}
use Rattle.lookup.specs.Told.{verdict_number}
use Rattle.lookup.specs.declared.LookupError.{LookupError}
use Rattle.lookup.specs.declared.LookupError.TheVariants.{KeyTooLong, WrongLength, RootDiffers}
use Rattle.clash.proofs.show.clash.Goals as goal
use Rattle.clash.proofs.show.clash.Goals.{Else-two_short, In-Ok, In-Ok-check_absence, then-one_short-via-then-one_short, then-one_short-via-else-one_short+then-two_short}

-- ---- the buffers

first_short : (b1 b2 : Bytes) → length b1 < 65 → roomy b1 b2 ≡ false
first_short b1 b2 h = rw (lt-leb 65 (length b1) h)

second_short : (b1 b2 : Bytes) → 65 ≤ length b1 → length b2 < 65 → roomy b1 b2 ≡ false
second_short b1 b2 h k = rw (le-leb 65 (length b1) h, lt-leb 65 (length b2) k)

both_long : (b1 b2 : Bytes) → 65 ≤ length b1 → 65 ≤ length b2 → roomy b1 b2 ≡ true
both_long b1 b2 h k = rw (le-leb 65 (length b1) h, le-leb 65 (length b2) k)

room : (c : Else-two_short) → roomy c.args.out1.now c.args.out2.now ≡ true
room c = both_long c.args.out1.now c.args.out2.now c.if-one_short.false c.if-two_short.false

-- ---- the two proofs

good : {u : Unit {0}} (n : ℕ) → verdict_number (Ok u) ≡ n → eqb n done ≡ true
unfolding verdict_number
good n e = ap (λ (m : ℕ). eqb m done) (sym e)

bad : (v : LookupError) (n : ℕ) → verdict_number (Err v) ≡ n → eqb n done ≡ false
unfolding verdict_number
bad KeyTooLong n e = ap (λ (m : ℕ). eqb m done) (sym e)
bad WrongLength n e = ap (λ (m : ℕ). eqb m done) (sym e)
bad RootDiffers n e = ap (λ (m : ℕ). eqb m done) (sym e)

first_good : (c : In-Ok) → let a = c.args in eqb (check_presence hash_of a.key.now a.root.bytes a.presence.now) done ≡ true
first_good c = good _ c.in-Ok.ensures

second_good : (c : In-Ok-check_absence) → let a = c.args in eqb (check_absence hash_of a.key.now a.root.bytes a.absence.now) done ≡ true
second_good c = good _ c.in-Ok-check_absence.ensures

full_proof : (c : In-Ok) → let a = c.args in Full hash_of a.key.now a.root.bytes a.presence.now
full_proof c = full hash_of _ _ _ (first_good c)

empty_proof : (c : In-Ok-check_absence) → let a = c.args in Empty hash_of a.key.now a.root.bytes a.absence.now
empty_proof c = empty hash_of _ _ _ (second_good c)

pub returns-then-one_short : goal.returns-then-one_short
returns-then-one_short c =
    let a = c.args in
    elim c.then-one_short.branch [
      | then-one_short-via-then-one_short w ↦
          sym (clash_is hash_of a.key.now a.root.bytes a.presence.now a.absence.now a.out1.now a.out2.now (first_short a.out1.now a.out2.now w.if-one_short.true) refl refl)
      | then-one_short-via-else-one_short+then-two_short w ↦
          sym (clash_is hash_of a.key.now a.root.bytes a.presence.now a.absence.now a.out1.now a.out2.now
          (second_short a.out1.now a.out2.now w.if-one_short.false w.if-two_short.true) refl refl)
    ]

pub returns-in_default : goal.returns-in_default
returns-in_default c = sym (clash_is hash_of _ _ _ _ _ _ (room (goal.at.returns-in_default c).Else-two_short) (bad _ _ c.in_default.ensures) refl)

pub returns-in_default-check_absence : goal.returns-in_default-check_absence
returns-in_default-check_absence c =
    let s = goal.at.returns-in_default-check_absence c in
    sym (clash_is hash_of _ _ _ _ _ _ (room s.Else-two_short) (first_good s.In-Ok) (bad _ _ c.in_default-check_absence.ensures))

pub handle_for-requires : goal.handle_for-requires
handle_for-requires c = (full_proof (goal.at.handle_for-requires c).In-Ok).short

pub walk_up-found-requires : goal.walk_up-found-requires
walk_up-found-requires c =
    let s = goal.at.walk_up-found-requires c in
    let e = empty_proof s.In-Ok-check_absence in
    ((full_proof s.In-Ok).sized, record { whole = e.whole; most = e.most })

pub returns : goal.returns
returns c =
    let a = c.args in
    let s = goal.at.returns c in
    let b1 = a.out1.now in
    let b2 = a.out2.now in
    c.show.ensures
    ∙ ap (λ (m : Meets). showing m b1 b2)
    (c.walk_up-found.ensures ∙ ap (λ (k : Bytes). meeting hash_of 256 k (rows_of a.presence.now) (rows_of a.absence.now)) c.handle_for.ensures)
    ∙ sym (clash_is hash_of _ _ a.presence.now a.absence.now b1 b2 (room s.Else-two_short) (first_good s.In-Ok) (second_good s.In-Ok-check_absence))
