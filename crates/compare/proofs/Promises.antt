-- What the contract of `compare` comes to, for the hash and the version of this build: one outcome; what each answer says of the two stores, exactly; the other
-- way round; and what two stores that agree give. Of version 1, the fields of an element are the first 64 bytes of its record.
use Rattle.std.specs.Prelude.{◌≡◌, refl, ◌≢◌, ◌⊎◌, true, false, cond, ℕ, ◌<◌, eqb, Result, Ok, Err}
use Rattle.std.proofs.Common.{sym, ap, ◌∙◌}
use Rattle.lists.specs.Bytes.{Bytes}
use Rattle.hash.specs.Hash.{hash_of}
use Rattle.rules.specs.Numbers.{v1}
use Rattle.rules.specs.Store.{damaged, log_of, count_of}
use Rattle.rules.specs.Calls.{gives, audit_call}
use Rattle.rules.proofs.OneOutcome.{One, one_outcome}
use Rattle.path.specs.declared.Position.{Position}
use Rattle.copies.specs.Comparing.{common, equal, first_shorter, second_shorter, differ}
use Rattle.copies.specs.Calls.{Outcome, found, refused, compare_call}
use Rattle.copies.proofs.Meaning.{SameTo, Differs, Comparable}
use Rattle.copies.proofs.Exactly.{found_shows, shows_found, damaged_refused, refused_damaged, other_refused, refused_other}
use Rattle.copies.proofs.Swapped as swapping
use Rattle.copies.proofs.Shared.{GiveTheSame, agreeing_gives}
use Rattle.copies.proofs.Sound as sound
use Rattle.compare.specs.Told.{compared_told}
use Rattle.compare.specs.declared.Compared.{Compared}
use Rattle.compare.specs.declared.Compared.TheVariants.{Equal, FirstShorter, SecondShorter, Differ}
use Rattle.compare.specs.declared.CompareError.{CompareError}
use Rattle.compare.specs.declared.CompareError.TheVariants.{Damaged, OtherLog}

-- ---- one outcome: each answer can be named again from what it says

abbrev name : Outcome → Result Compared CompareError
name (found equal) = Ok Equal
name (found first_shorter) = Ok FirstShorter
name (found second_shorter) = Ok SecondShorter
name (found (differ n b)) = Ok (Differ (record { 0 = n }) b)
name (refused num) = Err (cond (eqb num 1) Damaged OtherLog)

named : (r : Result Compared CompareError) → name (compared_told r) ≡ r
named (Ok Equal) = refl
named (Ok FirstShorter) = refl
named (Ok SecondShorter) = refl
named (Ok (Differ j b)) = refl
named (Err Damaged) = refl
named (Err OtherLog) = refl

pub compare_one : (s t : Bytes) → One compared_told (compare_call v1 s t)
compare_one s t = one_outcome compared_told name named (compare_call v1 s t)

-- ---- what each answer says

-- r is what `compare` answers of the two stores
abbrev pub Answers : Result Compared CompareError → Bytes → Bytes → Type 0
Answers r s t = compared_told r ≡ compare_call v1 s t

module _ (s t : Bytes) where
  -- EQUAL EXACTLY IF the counts and the closed records' first 64 bytes are equal.
  pub equal_says : Answers (Ok Equal) s t → Comparable v1 s t × ((count_of v1 s ≡ count_of v1 t) × SameTo v1 s t (count_of v1 s))
  equal_says q = found_shows v1 s t equal (sym q)

  pub equal_said : Comparable v1 s t → count_of v1 s ≡ count_of v1 t → SameTo v1 s t (count_of v1 s) → Answers (Ok Equal) s t
  equal_said c n e = sym (shows_found v1 s t equal c (n, e))

  -- SHORTER EXACTLY IF that one is a proper beginning of the other.
  pub first_shorter_says : Answers (Ok FirstShorter) s t → Comparable v1 s t × ((count_of v1 s < count_of v1 t) × SameTo v1 s t (count_of v1 s))
  first_shorter_says q = found_shows v1 s t first_shorter (sym q)

  pub first_shorter_said : Comparable v1 s t → count_of v1 s < count_of v1 t → SameTo v1 s t (count_of v1 s) → Answers (Ok FirstShorter) s t
  first_shorter_said c n e = sym (shows_found v1 s t first_shorter c (n, e))

  pub second_shorter_says : Answers (Ok SecondShorter) s t → Comparable v1 s t × ((count_of v1 t < count_of v1 s) × SameTo v1 s t (count_of v1 t))
  second_shorter_says q = found_shows v1 s t second_shorter (sym q)

  pub second_shorter_said : Comparable v1 s t → count_of v1 t < count_of v1 s → SameTo v1 s t (count_of v1 t) → Answers (Ok SecondShorter) s t
  second_shorter_said c n e = sym (shows_found v1 s t second_shorter c (n, e))

  -- N AND B ARE THE LEAST.
  pub differ_says : (n : Position) (b : ℕ) → Answers (Ok (Differ n b)) s t → Comparable v1 s t × Differs v1 s t n.0 b
  differ_says n b q = found_shows v1 s t (differ n.0 b) (sym q)

  pub differ_said : (n : Position) (b : ℕ) → Comparable v1 s t → Differs v1 s t n.0 b → Answers (Ok (Differ n b)) s t
  differ_said n b c e = sym (shows_found v1 s t (differ n.0 b) c e)

  -- 1 EXACTLY IF one of the two is damaged, and 26 EXACTLY IF neither is and the log numbers differ.
  pub damaged_says : Answers (Err Damaged) s t → (damaged v1 s ≡ true) ⊎ (damaged v1 t ≡ true)
  damaged_says q = refused_damaged v1 s t (sym q)

  pub damaged_said : (damaged v1 s ≡ true) ⊎ (damaged v1 t ≡ true) → Answers (Err Damaged) s t
  damaged_said d = sym (damaged_refused v1 s t d)

  pub other_log_says : Answers (Err OtherLog) s t → (damaged v1 s ≡ false) × (damaged v1 t ≡ false) × (log_of s ≢ log_of t)
  other_log_says q = refused_other v1 s t (sym q)

  pub other_log_said : damaged v1 s ≡ false → damaged v1 t ≡ false → log_of s ≢ log_of t → Answers (Err OtherLog) s t
  other_log_said d e n = sym (other_refused v1 s t d e n)

-- ---- the other way round

abbrev pub swapped : Result Compared CompareError → Result Compared CompareError
swapped (Ok Equal) = Ok Equal
swapped (Ok FirstShorter) = Ok SecondShorter
swapped (Ok SecondShorter) = Ok FirstShorter
swapped (Ok (Differ j b)) = Ok (Differ j b)
swapped (Err Damaged) = Err Damaged
swapped (Err OtherLog) = Err OtherLog

-- COMPARING THE OTHER WAY ROUND SWAPS THE ANSWER.
pub swaps : (s t : Bytes) (r : Result Compared CompareError) → Answers r s t → Answers (swapped r) t s
swaps s t r q = told r ∙ ap swapping.swapped_outcome q ∙ sym (swapping.compare_swapped v1 s t)
  where
    told : (r : Result Compared CompareError) → compared_told (swapped r) ≡ swapping.swapped_outcome (compared_told r)
    told (Ok Equal) = refl
    told (Ok FirstShorter) = refl
    told (Ok SecondShorter) = refl
    told (Ok (Differ j b)) = refl
    told (Err Damaged) = refl
    told (Err OtherLog) = refl

-- ---- two stores that agree

-- FROM "EQUAL" OR "SHORTER" every digest, proof and held state up to the lower count is the same from both.
pub equal_gives : (s t : Bytes) → Answers (Ok Equal) s t → GiveTheSame hash_of v1 s t (common v1 s t)
equal_gives s t q = agreeing_gives hash_of v1 s t equal tt (sym q)

pub first_shorter_gives : (s t : Bytes) → Answers (Ok FirstShorter) s t → GiveTheSame hash_of v1 s t (common v1 s t)
first_shorter_gives s t q = agreeing_gives hash_of v1 s t first_shorter tt (sym q)

pub second_shorter_gives : (s t : Bytes) → Answers (Ok SecondShorter) s t → GiveTheSame hash_of v1 s t (common v1 s t)
second_shorter_gives s t q = agreeing_gives hash_of v1 s t second_shorter tt (sym q)

-- BOTH SOUND, AND YET DIFFERENT: where both stores pass the audit, the first byte that differs is in d, so two different lots were entered there.
pub sound_differ : (s t : Bytes) (p q : ℕ) (n : Position) (b : ℕ) → audit_call hash_of v1 s ≡ gives p → audit_call hash_of v1 t ≡ gives q → Answers (Ok (Differ n b)) s t → b < 32
sound_differ s t p q n b a a' e = sound.sound_differ hash_of v1 s t p q n.0 b a a' (sym e)
