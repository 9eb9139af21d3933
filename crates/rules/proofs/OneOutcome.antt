-- Any two outcomes that the statement of a public call allows coincide. Each call's contract says that its answer and the lent memory, told in the terms
-- of document 01, are one function of what it was given; where telling loses nothing, that leaves one answer.
use Rattle.std.specs.Prelude.{◌≡◌, refl, ℕ}
use Rattle.std.proofs.Common.{sym, ap, ◌∙◌}
use Rattle.lists.specs.Bytes.{Bytes}
use Rattle.rules.specs.Numbers.{Version}
use Rattle.rules.specs.Held.{Held, held_start}
use Rattle.rules.specs.Dispute.{differing}
use Rattle.rules.specs.Calls.{start_call, count_call, append_call, digest_call, held_call, build_membership_call, build_advancement_call, audit_call, member_call, advance_call, dispute_call}

-- what a call may answer, where `told` is how its answers are told and o is the outcome that its contract names: no two differ
abbrev pub One : {A B : Type 0} → (A → B) → B → Type 0
One {A} told o = (x y : A) → told x ≡ o → told y ≡ o → x ≡ y

-- ONE OUTCOME. Where each answer can be named again from how it is told, two answers that are told as one outcome are one answer.
pub one_outcome : {A B : Type 0} (told : A → B) (name : B → A) → ((x : A) → name (told x) ≡ x) → (o : B) → One told o
one_outcome told name named o x y ex ey = sym (named x) ∙ ap name (ex ∙ sym ey) ∙ named y

-- the outcomes themselves, told as they are
abbrev pub OneOf : {B : Type 0} → B → Type 0
OneOf {B} o = One {A = B} {B = B} (λ x. x) o

-- Of the outcomes themselves there is one.
pub one_of : {B : Type 0} (o : B) → OneOf o
one_of o = one_outcome (λ x. x) (λ x. x) (λ x. refl) o

-- ---- call by call: the answer, and what lent memory holds after it

module _ (H : Bytes → Bytes) (v : Version) where
  pub start_one : (s : Bytes) (log : ℕ) → OneOf (start_call v s log)
  start_one s log = one_of (start_call v s log)

  pub count_one : (s : Bytes) → OneOf (count_call v s)
  count_one s = one_of (count_call v s)

  pub append_one : (front s e : Bytes) (stop : ℕ) → OneOf (append_call H v front s e stop)
  append_one front s e stop = one_of (append_call H v front s e stop)

  pub digest_one : (s : Bytes) (j : ℕ) → OneOf (digest_call H v s j)
  digest_one s j = one_of (digest_call H v s j)

  pub held_one : (s : Bytes) (j : ℕ) → OneOf (held_call H v s j)
  held_one s j = one_of (held_call H v s j)

  pub held_start_one : (log : ℕ) → OneOf (held_start H v log)
  held_start_one log = one_of (held_start H v log)

  pub build_membership_one : (s : Bytes) (i n : ℕ) (out : Bytes) → OneOf (build_membership_call H v s i n out)
  build_membership_one s i n out = one_of (build_membership_call H v s i n out)

  pub build_advancement_one : (s : Bytes) (i n : ℕ) (out : Bytes) → OneOf (build_advancement_call H v s i n out)
  build_advancement_one s i n out = one_of (build_advancement_call H v s i n out)

  pub member_one : (e : Bytes) (i n : ℕ) (D p : Bytes) → OneOf (member_call H v e i n D p)
  member_one e i n D p = one_of (member_call H v e i n D p)

  pub advance_one : (h : Held) (n : ℕ) (D p : Bytes) → OneOf (advance_call H v h n D p)
  advance_one h n D p = one_of (advance_call H v h n D p)

  pub audit_one : (s : Bytes) → OneOf (audit_call H v s)
  audit_one s = one_of (audit_call H v s)

  pub dispute_one : (e1 p1 e2 p2 : Bytes) (i n : ℕ) (D b1 b2 : Bytes) → OneOf (dispute_call H v e1 p1 e2 p2 i n D b1 b2)
  dispute_one e1 p1 e2 p2 i n D b1 b2 = one_of (dispute_call H v e1 p1 e2 p2 i n D b1 b2)

  pub differing_one : (i n : ℕ) (p q : Bytes) → OneOf (differing v i n p q)
  differing_one i n p q = one_of (differing v i n p q)
