-- The shapes of what an export leaves: the number that it returns, the three numbers of `answer`, and the memory that it is lent. The number is
-- 01's; `answer` is written whole by every call that takes it. A refusal leaves lent memory as it was. Of each shape, an outcome says all.
use Rattle.std.specs.Prelude.{◌≡◌, refl, ◌≢◌, cond, List, [], ◌∷◌, ℕ, eqb}
use Rattle.std.proofs.Common.{ne_eqb}
use Rattle.lists.specs.Bytes.{Bytes}
use Rattle.rules.specs.Refusals.{done}
use Rattle.rules.proofs.OneOutcome.{One, one_outcome}
use Rattle.rules.specs.Calls.{Answer, Written, Finding, all_same, shown, denied, Disputed}

-- ---- a number and the answer

pub record Told : Type 0 where
  pub number : ℕ
  pub answer : List ℕ

abbrev pub told : ℕ → List ℕ → Told
told num a = record { number = num; answer = a }

abbrev pub telling : ℕ × List ℕ → Told
telling x = told x.0 x.1

pub one_told : (o : Told) → One telling o
one_told o = one_outcome telling (λ t. (t.number, t.answer)) (λ x. refl) o

-- 01's number; the number that is given with it, and 02's place (A5)
abbrev pub answered : Answer → Told
answered a = told a.number (a.value ∷ a.place.element ∷ a.place.level ∷ [])

-- ---- a number and lent bytes

pub record Left : Type 0 where
  pub number : ℕ
  pub bytes : Bytes

abbrev pub left : ℕ → Bytes → Left
left num b = record { number = num; bytes = b }

abbrev pub leaving : ℕ × Bytes → Left
leaving x = left x.0 x.1

pub one_left : (o : Left) → One leaving o
one_left o = one_outcome leaving (λ l. (l.number, l.bytes)) (λ x. refl) o

-- these bytes if the number is 0, else the lent ones as they were
abbrev pub unless_refused : ℕ → Bytes → Bytes → Bytes
unless_refused num new old = cond (eqb num 0) new old

abbrev pub leaves : ℕ → Bytes → Bytes → Left
leaves num new old = left num (unless_refused num new old)

-- A refusal leaves the lent bytes, and where nothing is refused they are the new ones.
pub kept : (num : ℕ) (new old : Bytes) → num ≢ 0 → left num old ≡ leaves num new old
kept num new old h = rw (ne_eqb num 0 h)

pub given : (num : ℕ) (new old : Bytes) → num ≡ 0 → left 0 new ≡ leaves num new old
given num new old h = rw h

-- ---- a number, the answer and lent bytes

pub record Wrote : Type 0 where
  pub told : Told
  pub bytes : Bytes

abbrev pub wrote : ℕ → List ℕ → Bytes → Wrote
wrote num a b = record { told = told num a; bytes = b }

abbrev pub writing : ℕ × List ℕ × Bytes → Wrote
writing x = wrote x.0 x.1 x.2

pub one_wrote : (o : Wrote) → One writing o
one_wrote o = one_outcome writing (λ w. (w.told.number, w.told.answer, w.bytes)) (λ x. refl) o

-- an outcome of the rules: its answer told, its bytes left
abbrev pub spoken : Written → Wrote
spoken w = record { told = answered w.answer; bytes = w.bytes }

-- ---- a number, the answer and two lent buffers

pub record Showed : Type 0 where
  pub told : Told
  pub first : Bytes
  pub second : Bytes

abbrev pub showed : ℕ → List ℕ → Bytes → Bytes → Showed
showed num a b1 b2 = record { told = told num a; first = b1; second = b2 }

abbrev pub showing : ℕ × List ℕ × Bytes × Bytes → Showed
showing x = showed x.0 x.1 x.2 x.3

pub one_showed : (o : Showed) → One showing o
one_showed o = one_outcome showing (λ s. (s.told.number, s.told.answer, s.first, s.second)) (λ x. refl) o

-- "same", or the two lengths; with a refusal, the proof that is not accepted
abbrev pub finding : Finding → Told
finding all_same = told done (1 ∷ 0 ∷ 0 ∷ [])
finding (shown n m) = told done (0 ∷ n ∷ m ∷ [])
finding (denied num which) = told num (which ∷ 0 ∷ 0 ∷ [])

-- an outcome of the rules: what it finds told, its buffers left
abbrev pub shows : Disputed → Showed
shows o = record { told = finding o.finding; first = o.first; second = o.second }
