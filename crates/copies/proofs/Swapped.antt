-- THE OTHER WAY ROUND: comparing the second store with the first swaps the answer. And a store agrees with itself.
use Rattle.std.specs.Prelude.{◌≡◌, refl, Bool, true, false, eqb}
use Rattle.std.proofs.Common.{sym, ap, ◌∙◌, arith, eqb-true, eq-eqb, ne_eqb}
use Rattle.std.proofs.lemmas.Bool.{eqb-false}
use Rattle.lists.specs.Bytes.{Bytes}
use Rattle.rules.specs.Numbers.{Version}
use Rattle.rules.specs.Store.{damaged, log_of}
use Rattle.copies.specs.Comparing.{Finding, equal, first_shorter, second_shorter, differ, finding}
use Rattle.copies.specs.Calls.{Outcome, found, refused, compare_call}
use Rattle.copies.proofs.Answers.{compare_is}
use Rattle.copies.proofs.Meaning.{Shows, shown, only}
use Rattle.copies.proofs.Exactly.{shows_found}

-- which store is the shorter changes its place; what differs is the same
abbrev pub swapped : Finding → Finding
swapped equal = equal
swapped first_shorter = second_shorter
swapped second_shorter = first_shorter
swapped (differ n b) = differ n b

abbrev pub swapped_outcome : Outcome → Outcome
swapped_outcome (found f) = found (swapped f)
swapped_outcome (refused num) = refused num

module _ (v : Version) (s t : Bytes) where
  -- What an answer says of two stores, the swapped one says of them the other way round.
  shows_swapped : (f : Finding) → Shows v s t f → Shows v t s (swapped f)
  shows_swapped equal e = (sym e.0, λ j g h. sym (e.1 j g (omega (arith, e.0))))
  shows_swapped first_shorter e = (e.0, λ j g h. sym (e.1 j g h))
  shows_swapped second_shorter e = (e.0, λ j g h. sym (e.1 j g h))
  shows_swapped (differ n b) e = record {
    from_one = e.from_one;
    in_first = e.in_second;
    in_second = e.in_first;
    elements = λ j g h. sym (e.elements j g h);
    within = e.within;
    bytes = λ i h. sym (e.bytes i h);
    there = λ q. e.there (sym q);
  }

  finding_swapped : damaged v s ≡ false → damaged v t ≡ false → finding v t s ≡ swapped (finding v s t)
  finding_swapped d e = only v t s e d (swapped (finding v s t)) (shows_swapped (finding v s t) (shown v s t d e))

  -- THE OTHER WAY ROUND THE ANSWER IS SWAPPED, a refusal the same.
  pub compare_swapped : compare_call v t s ≡ swapped_outcome (compare_call v s t)
  compare_swapped = go (damaged v s) refl (damaged v t) refl (eqb (log_of s) (log_of t)) refl
    where
      go : (a : Bool) → damaged v s ≡ a → (b : Bool) → damaged v t ≡ b → (c : Bool) → eqb (log_of s) (log_of t) ≡ c → compare_call v t s ≡ swapped_outcome (compare_call v s t)
      go true ea true eb c ec = compare_is v t s eb ea refl ∙ sym (ap swapped_outcome (compare_is v s t ea eb ec))
      go true ea false eb c ec = compare_is v t s eb ea refl ∙ sym (ap swapped_outcome (compare_is v s t ea eb ec))
      go false ea true eb c ec = compare_is v t s eb ea refl ∙ sym (ap swapped_outcome (compare_is v s t ea eb ec))
      go false ea false eb true ec =
          compare_is v t s eb ea (eq-eqb (log_of t) (log_of s) (sym (eqb-true (log_of s) (log_of t) ec)))
          ∙ ap found (finding_swapped ea eb)
          ∙ sym (ap swapped_outcome (compare_is v s t ea eb ec))
      go false ea false eb false ec =
          compare_is v t s eb ea (ne_eqb (log_of t) (log_of s) (λ q. eqb-false (log_of s) (log_of t) ec (sym q))) ∙ sym (ap swapped_outcome (compare_is v s t ea eb ec))

-- A STORE IN ORDER AGREES WITH ITSELF.
pub compare_itself : (v : Version) (s : Bytes) → damaged v s ≡ false → compare_call v s s ≡ found equal
compare_itself v s d = shows_found v s s equal (record { first_sound = d; second_sound = d; one_log = refl }) (refl, λ j g h. refl)
