-- What `check_advancement` promises, from its contract alone: one answer, the old state beside a refusal, the path's hops and a state in order beside
-- acceptance, and (demand 2) that an honest proof is accepted and gives the state that the log's digests give at n.
use Rattle.std.specs.Prelude.{Result, Ok, ◌≡◌, Bool, true, false, List, [], ◌∷◌, ℕ, suc, ◌+◌, ◌/◌, ◌^◌, ◌≤◌, eqb, length, drop}
use Rattle.std.proofs.Math.Path.{refl, ap, ap₂}
use Rattle.std.proofs.Common.{sym, ◌∙◌, arith, lit≤}
use Rattle.lists.specs.Bytes.{Bytes, same}
use Rattle.hash.specs.Hash.{hash_of}
use Rattle.hash.specs.declared.Digest.{Digest}
use Rattle.path.specs.declared.Length.{Length}
use Rattle.rules.specs.Numbers.{v1, limit}
use Rattle.rules.specs.Paths.{hops, path_after}
use Rattle.rules.specs.Messages.{start_msg, size, total, row, part, advancement_proof, Lawful}
use Rattle.rules.specs.Refusals.{state_broken, no_such_number, wrong_length, row_differs, link_differs, digest_differs}
use Rattle.rules.specs.Held as rules
use Rattle.rules.specs.Checking.{Place, place, nowhere, Verdict, accepted, refused, must_at, upward, agrees, off_row, hopped, advance_walk, advance}
use Rattle.rules.specs.Calls as calls
use Rattle.rules.proofs.Acceptance.{advance_hops, advance_in_order}
use Rattle.rules.proofs.HonestAdvance.{honest_advance}
use Rattle.rules.proofs.OneOutcome.{One, one_outcome}
use Rattle.held.specs.declared.Held.{Held}
use Rattle.held.specs.Holding.{holds, held_one}
use Rattle.advancement.specs.declared.AdvanceError.{AdvanceError}
use Rattle.advancement.specs.Advancing.{Advanced, answer_of, verdict_one, outcome_of, answer_from, answer_back}

-- what the contract says of an answer r
abbrev pub Answers : Held → Length → Digest → Bytes → Advanced → Type 0
Answers h n D p r = outcome_of r ≡ calls.advance_call hash_of v1 (holds h) n.0 D.bytes p

-- ONE ANSWER
pub advanced_one : (h : Held) (n : Length) (D : Digest) (p : Bytes) → One outcome_of (calls.advance_call hash_of v1 (holds h) n.0 D.bytes p)
advanced_one h n D p = one_outcome outcome_of answer_from answer_back (calls.advance_call hash_of v1 (holds h) n.0 D.bytes p)

-- ---- refusals have numbers other than 0

IsNumbered : {A : Type 0} → Verdict A → Type 0
IsNumbered (accepted x) = Unit {0}
IsNumbered (refused num k w) = 1 ≤ num

must_numbered : {A : Type 0} (w : Place) (b : Bool) (num k : ℕ) (x : Verdict A) → 1 ≤ num → IsNumbered x → IsNumbered (must_at w b num k x)
unfolding IsNumbered
must_numbered w true num k x h g = g
must_numbered w false num k x h g = h

walk_numbered : (ls : List ℕ) (h : rules.Held) (p : Bytes) (o : ℕ) (D : Bytes) (k : ℕ) → IsNumbered (advance_walk hash_of v1 h ls p o D k)
unfolding advance_walk IsNumbered
walk_numbered [] h p o D k = must_numbered nowhere (same h.digest D) digest_differs k _ (lit≤ tt) tt
walk_numbered (l ∷ ls) h p o D k =
    let to = h.count + 2 ^ l in
    must_numbered (place to (off_row v1 l (drop l h.rows) (part v1 p o to))) (agrees v1 l (h.count / 2 ^ l) (drop l h.rows) (part v1 p o to)) row_differs k _ (lit≤ tt)
    (must_numbered (place to l) (same (row v1 (part v1 p o to) (suc l)) h.digest) link_differs k _ (lit≤ tt) (walk_numbered ls (hopped hash_of v1 h l p o) p (o + size v1 to) D (suc k)))

advance_numbered : (h : rules.Held) (n : ℕ) (D p : Bytes) → IsNumbered (advance hash_of v1 h n D p)
unfolding advance
advance_numbered h n D p =
    must_numbered nowhere (rules.is_in_order hash_of v1 h) state_broken 0 _ (lit≤ tt)
    (must_numbered nowhere (upward v1 h.count n) no_such_number 0 _ (lit≤ tt)
    (must_numbered nowhere (eqb (length p) (total v1 (path_after h.count n))) wrong_length 0 _ (lit≤ tt) (walk_numbered (hops h.count n) h p 0 D 0)))

-- ---- refused and accepted

module _ (h : Held) (n : Length) (D : Digest) (p : Bytes) (r : Advanced) (e : Answers h n D p r) where
  -- the answer by the rules' verdict
  told : (w : Verdict (ℕ × rules.Held)) → advance hash_of v1 (holds h) n.0 D.bytes p ≡ w → outcome_of r ≡ calls.advance_answer (holds h) w
  told w f = e ∙ ap (calls.advance_answer (holds h)) f

  -- ANY REFUSAL HANDS BACK THE OLD STATE
  pub refused_keeps : ((k : ℕ) → r.verdict ≡ Ok k → ⊥) → r.held ≡ h
  refused_keeps bad = go (advance hash_of v1 (holds h) n.0 D.bytes p) refl
    where
      go : (w : Verdict (ℕ × rules.Held)) → advance hash_of v1 (holds h) n.0 D.bytes p ≡ w → r.held ≡ h
      go (accepted m) f = absurd (bad m.0 (verdict_one r.verdict (Ok m.0) (ap (λ (o : calls.Advanced). o.answer) (told (accepted m) f))))
      go (refused num k w) f = held_one (holds h) r.held h (ap (λ (o : calls.Advanced). o.held) (told (refused num k w) f)) refl

  module _ (k : ℕ) (a : r.verdict ≡ Ok k) where
    -- the rules accept what the code accepts
    pub accepted_is : advance hash_of v1 (holds h) n.0 D.bytes p ≡ accepted (k, holds r.held)
    unfolding IsNumbered
    accepted_is = go (advance hash_of v1 (holds h) n.0 D.bytes p) refl (advance_numbered (holds h) n.0 D.bytes p)
      where
        go : (w : Verdict (ℕ × rules.Held)) → advance hash_of v1 (holds h) n.0 D.bytes p ≡ w → IsNumbered w → w ≡ accepted (k, holds r.held)
        go (accepted m) f g =
            let o = told (accepted m) f in
            let hops : m.0 ≡ k = ap (λ (x : calls.Advanced). x.answer.value) (sym o) ∙ ap (λ (v : Result ℕ AdvanceError). (answer_of v).value) a in
            ap₂ (λ (x : ℕ) (y : rules.Held). accepted (x, y)) hops (ap (λ (x : calls.Advanced). x.held) (sym o))
        go (refused num j w) f g =
            let z : num ≡ 0 = ap (λ (x : calls.Advanced). x.answer.number) (sym (told (refused num j w) f)) ∙ ap (λ (v : Result ℕ AdvanceError). (answer_of v).number) a in
            absurd (omega arith)

    -- "the number of hops found good, which equals the path's hops when accepted"
    pub accepted_hops : k ≡ length (hops h.count.0 n.0)
    accepted_hops = advance_hops hash_of v1 (holds h) n.0 D.bytes p (k, holds r.held) accepted_is

    -- the new state is in order, so it can be advanced again
    pub accepted_in_order : rules.is_in_order hash_of v1 (holds r.held) ≡ true
    accepted_in_order = advance_in_order hash_of v1 (holds h) n.0 D.bytes p (k, holds r.held) accepted_is

-- ---- honest proofs

-- The state at the start is the one that the digests of the log give at 0.
pub begins : (log : ℕ) (T : ℕ → Bytes) → T 0 ≡ hash_of (start_msg v1 log) → (h : Held) → holds h ≡ rules.held_start hash_of v1 log → holds h ≡ rules.held_of v1 log T 0
unfolding rules.basis
begins log T start h e = e ∙ ap (λ (t : Bytes). record { log = log; count = 0; digest = t; rows = rules.no_rows v1 }) (sym start)

-- HONEST PROOFS ARE ACCEPTED: digests T of a log that obey the rules up to n, its bodies, and T(0) of its number

module _ (log : ℕ) (body T : ℕ → Bytes) (n : Length) (L : Lawful hash_of v1 body T n.0) (start : T 0 ≡ hash_of (start_msg v1 log)) (top : n.0 ≤ limit v1) where
  -- The state that they give at i takes the honest proof to n, and the state at n comes back.
  pub honest_advanced : (i : ℕ) → i ≤ n.0 → (h : Held) (D : Digest) (r : Advanced) → holds h ≡ rules.held_of v1 log T i → D.bytes ≡ T n.0
      → Answers h n D (advancement_proof body T i n.0) r → outcome_of r ≡ record { answer = calls.gives (length (hops i n.0)); held = rules.held_of v1 log T n.0 }
  honest_advanced i up h D r eh e_d e =
      e
      ∙ ap₂ (λ (g : rules.Held) (d : Bytes). calls.advance_call hash_of v1 g n.0 d (advancement_proof body T i n.0)) eh e_d
      ∙ ap (calls.advance_answer (rules.held_of v1 log T i)) (honest_advance hash_of v1 log body T n.0 L (lit≤ tt) top start i up)
