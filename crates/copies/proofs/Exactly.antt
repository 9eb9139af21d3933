-- WHAT THE CALL ANSWERS, EXACTLY: an answer is given if what it says holds (`shows_found`), and only then (`found_shows`). So "equal" is given exactly if the
-- counts and the closed records, without their state bytes, are equal; "shorter" exactly if one store is a proper beginning of the other; "differ" exactly with the
-- least N and B; and 1 and 26 are given exactly for damage and, then, for other log numbers.
use Rattle.std.specs.Prelude.{◌≡◌, refl, ◌≢◌, ◌⊎◌, Bool, true, false, ℕ, suc, eqb}
use Rattle.std.proofs.Common.{sym, ap, subst, ◌∙◌, inl, inr, arith, eq-eqb, ne_eqb, eqb-true}
use Rattle.std.proofs.lemmas.Bool.{eqb-false}
use Rattle.lists.specs.Bytes.{Bytes}
use Rattle.rules.specs.Numbers.{Version}
use Rattle.rules.specs.Refusals.{store_damaged}
use Rattle.rules.specs.Store.{damaged, log_of}
use Rattle.copies.specs.Refusals.{other_log}
use Rattle.copies.specs.Comparing.{Finding, equal}
use Rattle.copies.specs.Calls.{Outcome, found, refused, compare_call}
use Rattle.copies.proofs.Answers.{compare_is}
use Rattle.copies.proofs.Meaning.{Shows, Comparable, shown, only}

-- the finding of an outcome, and 0 for one that is none
abbrev finding_in : Outcome → Finding
finding_in (found f) = f
finding_in (refused num) = equal

abbrev number_in : Outcome → ℕ
number_in (found f) = 0
number_in (refused num) = suc num

not_found : {f : Finding} {num : ℕ} → found f ≡ refused num → ⊥
not_found e = let z = ap number_in e in omega arith

found_is : {f g : Finding} → found f ≡ found g → f ≡ g
found_is e = ap finding_in e

module _ (v : Version) (s t : Bytes) where
  -- WHAT IS ANSWERED HOLDS: a finding is given for stores that can be compared, and says what holds of them,
  pub found_shows : (f : Finding) → compare_call v s t ≡ found f → Comparable v s t × Shows v s t f
  found_shows f q = go (damaged v s) refl (damaged v t) refl (eqb (log_of s) (log_of t)) refl
    where
      go : (a : Bool) → damaged v s ≡ a → (b : Bool) → damaged v t ≡ b → (c : Bool) → eqb (log_of s) (log_of t) ≡ c → Comparable v s t × Shows v s t f
      go true ea b eb c ec = absurd (not_found (sym q ∙ compare_is v s t ea eb ec))
      go false ea true eb c ec = absurd (not_found (sym q ∙ compare_is v s t ea eb ec))
      go false ea false eb false ec = absurd (not_found (sym q ∙ compare_is v s t ea eb ec))
      go false ea false eb true ec = (
        record { first_sound = ea; second_sound = eb; one_log = eqb-true (log_of s) (log_of t) ec },
        subst (λ (x : Finding). Shows v s t x) (found_is (sym (compare_is v s t ea eb ec) ∙ q)) (shown v s t ea eb),
      )

  -- AND WHAT HOLDS IS ANSWERED.
  pub shows_found : (f : Finding) → Comparable v s t → Shows v s t f → compare_call v s t ≡ found f
  shows_found f c e = compare_is v s t c.first_sound c.second_sound (eq-eqb (log_of s) (log_of t) c.one_log) ∙ ap found (only v s t c.first_sound c.second_sound f e)

  -- REFUSED: 1 exactly if one of the two is damaged,
  pub damaged_refused : (damaged v s ≡ true) ⊎ (damaged v t ≡ true) → compare_call v s t ≡ refused store_damaged
  damaged_refused (inl d) = compare_is v s t d refl refl
  damaged_refused (inr d) = go (damaged v s) refl
    where
      go : (a : Bool) → damaged v s ≡ a → compare_call v s t ≡ refused store_damaged
      go true e = compare_is v s t e refl refl
      go false e = compare_is v s t e d refl

  pub refused_damaged : compare_call v s t ≡ refused store_damaged → (damaged v s ≡ true) ⊎ (damaged v t ≡ true)
  refused_damaged q = go (damaged v s) refl (damaged v t) refl (eqb (log_of s) (log_of t)) refl
    where
      go : (a : Bool) → damaged v s ≡ a → (b : Bool) → damaged v t ≡ b → (c : Bool) → eqb (log_of s) (log_of t) ≡ c → (damaged v s ≡ true) ⊎ (damaged v t ≡ true)
      go true ea b eb c ec = inl ea
      go false ea true eb c ec = inr eb
      go false ea false eb true ec = absurd (let z = ap number_in (sym q ∙ compare_is v s t ea eb ec) in omega arith)
      go false ea false eb false ec = absurd (let z = ap number_in (sym q ∙ compare_is v s t ea eb ec) in omega arith)

  -- and 26 exactly if neither is, and the log numbers differ.
  pub other_refused : damaged v s ≡ false → damaged v t ≡ false → log_of s ≢ log_of t → compare_call v s t ≡ refused other_log
  other_refused d e n = compare_is v s t d e (ne_eqb (log_of s) (log_of t) n)

  pub refused_other : compare_call v s t ≡ refused other_log → (damaged v s ≡ false) × (damaged v t ≡ false) × (log_of s ≢ log_of t)
  refused_other q = go (damaged v s) refl (damaged v t) refl (eqb (log_of s) (log_of t)) refl
    where
      go : (a : Bool) → damaged v s ≡ a → (b : Bool) → damaged v t ≡ b → (c : Bool) → eqb (log_of s) (log_of t) ≡ c
          → (damaged v s ≡ false) × (damaged v t ≡ false) × (log_of s ≢ log_of t)
      go true ea b eb c ec = absurd (let z = ap number_in (sym q ∙ compare_is v s t ea eb ec) in omega arith)
      go false ea true eb c ec = absurd (let z = ap number_in (sym q ∙ compare_is v s t ea eb ec) in omega arith)
      go false ea false eb true ec = absurd (let z = ap number_in (sym q ∙ compare_is v s t ea eb ec) in omega arith)
      go false ea false eb false ec = (ea, eb, eqb-false (log_of s) (log_of t) ec)
