-- 01's number and hops, and 02's place (A5), for each verdict of the check.
use Rattle.std.specs.Prelude.{◌≡◌, refl, cond, ℕ, eqb, Result, Ok, Err, is_ok}
use Rattle.std.proofs.Common.{sym, ap, ◌∙◌}
use Rattle.rules.specs.Refusals.{too_long, no_such_number, wrong_length, other_entry, link_differs, digest_differs}
use Rattle.rules.specs.Checking.{place, nowhere, Verdict as Judged, accepted, refused, is_accepted}
use Rattle.rules.specs.Calls.{Answer, member_answer}
use Rattle.membership.specs.declared.MembershipError.{MembershipError}
use Rattle.membership.specs.declared.MembershipError.TheVariants.{EntryTooLong, NoSuchElement, WrongLength, OtherEntry, LinkDiffers, DigestDiffers}

-- the hops of an accepted proof, or why it is refused
abbrev pub Verdict : Type 0
Verdict = Result ℕ MembershipError

unfoldable pub verdict_of : Verdict → Judged ℕ
verdict_of (Ok hops) = accepted hops
verdict_of (Err EntryTooLong) = refused too_long 0 nowhere
verdict_of (Err NoSuchElement) = refused no_such_number 0 nowhere
verdict_of (Err WrongLength) = refused wrong_length 0 nowhere
verdict_of (Err OtherEntry) = refused other_entry 0 nowhere
verdict_of (Err (LinkDiffers hops element level)) = refused link_differs hops (place element level)
verdict_of (Err (DigestDiffers hops)) = refused digest_differs hops nowhere

-- what a verdict comes to as a call's answer
abbrev pub answer_of : Verdict → Answer
answer_of v = member_answer (verdict_of v)

-- A proof is accepted exactly where the answer is Ok.
pub accepted_ok : (v : Verdict) → is_ok v ≡ is_accepted (verdict_of v)
unfolding verdict_of
accepted_ok (Ok hops) = refl
accepted_ok (Err EntryTooLong) = refl
accepted_ok (Err NoSuchElement) = refl
accepted_ok (Err WrongLength) = refl
accepted_ok (Err OtherEntry) = refl
accepted_ok (Err (LinkDiffers hops element level)) = refl
accepted_ok (Err (DigestDiffers hops)) = refl

-- ---- the map loses nothing, so a contract that fixes number, hops and place fixes the verdict

name_of : Judged ℕ → Verdict
name_of (accepted hops) = Ok hops
name_of (refused num hops w) =
    Err (cond (eqb num too_long) EntryTooLong
    (cond (eqb num no_such_number) NoSuchElement
    (cond (eqb num wrong_length) WrongLength
    (cond (eqb num other_entry) OtherEntry
    (cond (eqb num link_differs) (LinkDiffers hops w.element w.level) (DigestDiffers hops))))))

named : (v : Verdict) → name_of (verdict_of v) ≡ v
unfolding name_of verdict_of
named (Ok hops) = refl
named (Err EntryTooLong) = refl
named (Err NoSuchElement) = refl
named (Err WrongLength) = refl
named (Err OtherEntry) = refl
named (Err (LinkDiffers hops element level)) = refl
named (Err (DigestDiffers hops)) = refl

pub one_verdict : (v w : Verdict) → verdict_of v ≡ verdict_of w → v ≡ w
one_verdict v w e = sym (named v) ∙ ap name_of e ∙ named w
