-- Checking an advancement: 01's number and values for each verdict, and one hop as the code takes it.
use Rattle.std.specs.Prelude.{Option, None, Some, Result, Ok, Err, ◌≡◌, refl, Bool, true, false, cond, ℕ, suc, ◌+◌, ◌/◌, ◌%◌, ◌^◌, ◌<◌, eqb, length, drop}
use Rattle.std.proofs.Common.{sym, ap, ◌∙◌}
use Rattle.lists.specs.Bytes.{Bytes, same}
use Rattle.hash.specs.Hash.{hash_of}
use Rattle.rules.specs.Numbers.{v1}
use Rattle.rules.specs.Messages.{element_msg, size, row}
use Rattle.rules.specs.Refusals.{state_broken, no_such_number, wrong_length, row_differs, link_differs, digest_differs}
use Rattle.rules.specs.Held as rules
use Rattle.rules.specs.Checking.{place, rows_after}
use Rattle.rules.specs.Calls as calls
use Rattle.held.specs.declared.Held.{Held}
use Rattle.held.specs.Holding.{holds, held_from, held_back}
use Rattle.held.specs.Rows.{rows_say}
use Rattle.advancement.specs.declared.AdvanceError.{AdvanceError}
use Rattle.advancement.specs.declared.AdvanceError.TheVariants.{StateBroken, NoSuchLength, WrongLength, RowDiffers, LinkDiffers, DigestDiffers}
use Rattle.advancement.specs.declared.Hop.{Hop}
use Rattle.advancement.specs.declared.Hop.TheVariants.{Good, Row, Link}
use Rattle.advancement.specs.declared.Hopped.{Hopped}

-- ---- the outcome in 01's terms, with 02's place (A5)

-- what the check answers, and the state held then
pub record Advanced : Type 0 where
  pub verdict : Result ℕ AdvanceError
  pub held : Held

abbrev pub advanced : Result ℕ AdvanceError → Held → Advanced
advanced v h = record { verdict = v; held = h }

abbrev pub answer_of : Result ℕ AdvanceError → calls.Answer
answer_of (Ok hops) = calls.gives hops
answer_of (Err StateBroken) = calls.refuses state_broken
answer_of (Err NoSuchLength) = calls.refuses no_such_number
answer_of (Err WrongLength) = calls.refuses wrong_length
answer_of (Err (RowDiffers hops element row)) = record { number = row_differs; value = hops; place = place element row }
answer_of (Err (LinkDiffers hops element level)) = record { number = link_differs; value = hops; place = place element level }
answer_of (Err (DigestDiffers hops)) = calls.refuses_with digest_differs hops

abbrev pub outcome_of : Advanced → calls.Advanced
outcome_of r = record { answer = answer_of r.verdict; held = holds r.held }

-- and back: the outcome names the answer again, so a contract that fixes it fixes the answer
verdict_from : calls.Answer → Result ℕ AdvanceError
verdict_from a =
    cond (eqb a.number state_broken) (Err StateBroken)
    (cond (eqb a.number no_such_number) (Err NoSuchLength)
    (cond (eqb a.number wrong_length) (Err WrongLength)
    (cond (eqb a.number row_differs) (Err (RowDiffers a.value a.place.element a.place.level))
    (cond (eqb a.number link_differs) (Err (LinkDiffers a.value a.place.element a.place.level))
    (cond (eqb a.number digest_differs) (Err (DigestDiffers a.value)) (Ok a.value))))))

pub answer_from : calls.Advanced → Advanced
answer_from o = record { verdict = verdict_from o.answer; held = held_from o.held }

verdict_back : (v : Result ℕ AdvanceError) → verdict_from (answer_of v) ≡ v
unfolding verdict_from
verdict_back (Ok hops) = refl
verdict_back (Err StateBroken) = refl
verdict_back (Err NoSuchLength) = refl
verdict_back (Err WrongLength) = refl
verdict_back (Err (RowDiffers hops element row)) = refl
verdict_back (Err (LinkDiffers hops element level)) = refl
verdict_back (Err (DigestDiffers hops)) = refl

-- two verdicts with one answer are one
pub verdict_one : (v w : Result ℕ AdvanceError) → answer_of v ≡ answer_of w → v ≡ w
verdict_one v w e = sym (verdict_back v) ∙ ap verdict_from e ∙ verdict_back w

pub answer_back : (r : Advanced) → answer_from (outcome_of r) ≡ r
unfolding answer_from
answer_back r = rw (verdict_back r.verdict, held_back r.held)

-- ---- one hop

-- a hop's verdict, and what is held then
pub record Step : Type 0 where
  pub verdict : Hop
  pub state : rules.Held

abbrev pub step_of : Hopped → Step
step_of r = record { verdict = r.verdict; state = holds r.state }

-- what a hop of level l from h asks of its end m and of the component x that it reads
pub record Ready (h : rules.Held) (l m : ℕ) (x : Bytes) : Type 0 where
  pub small : l < 64
  pub divides : h.count % 2 ^ l ≡ 0
  pub ends : m ≡ h.count + 2 ^ l
  pub long : length x ≡ size v1 (h.count + 2 ^ l)

-- a hop of level l from h, over the component x of the element that it reaches
module _ (h : rules.Held) (l : ℕ) (x : Bytes) where
  abbrev to : ℕ
  to = h.count + 2 ^ l

  -- by what the rows say, and whether the link is the digest held
  abbrev pub hop_by : Option ℕ → Bool → Step
  hop_by (Some c) b = record { verdict = Row to c; state = h }
  hop_by None false = record { verdict = Link to l; state = h }
  hop_by None true = record { verdict = Good; state = record { log = h.log; count = to; digest = hash_of (element_msg to x); rows = rows_after l h } }

  unfoldable pub hop_of : Step
  hop_of = hop_by (rows_say l (h.count / 2 ^ l) (drop l h.rows) x) (same (row v1 x (suc l)) h.digest)

  -- by what its two tests give
  pub hop_is : {s : Option ℕ} {b : Bool} → rows_say l (h.count / 2 ^ l) (drop l h.rows) x ≡ s → same (row v1 x (suc l)) h.digest ≡ b → hop_of ≡ hop_by s b
  unfolding hop_of
  hop_is e f = rw (e, f)

-- what a hop's verdict says of the check, with k hops good before it
abbrev pub verdict_by : Hop → ℕ → Result ℕ AdvanceError
verdict_by Good k = Ok k
verdict_by (Row j c) k = Err (RowDiffers k j c)
verdict_by (Link j l) k = Err (LinkDiffers k j l)
