-- The clash theorem for the whole outcome of the call. An accepted presence and an accepted absence for one key and root, and buffers that are long
-- enough: then the two buffers begin with two different messages of equal hash, or the first begins with a message whose hash is all zeros and the
-- second stays; and what stands behind the messages stays.
use Rattle.std.specs.Prelude.{◌≡◌, refl, true, ℕ, eqb, length, take, drop}
use Rattle.std.proofs.Common.{sym, ap, ◌∙◌, arith}
use Rattle.std.proofs.Math.Seq.{take-append_seam, drop-append_seam}
use Rattle.lists.specs.Bytes.{Bytes}
use Rattle.rules.specs.Refusals.{done}
use Rattle.dictionary.specs.Handles.{handle, rows_of}
use Rattle.dictionary.specs.Meeting.{Meets, two, lone, meeting}
use Rattle.dictionary.specs.Calls.{Formed, clashing, zeroed, showing, roomy, check_presence, check_absence, clash_call}
use Rattle.dictionary.proofs.Answers.{clash_is}
use Rattle.dictionary.proofs.Rows.{rows_length, rows_whole}
use Rattle.dictionary.proofs.Accepted.{full, empty}
use Rattle.dictionary.proofs.Clashing.{Clash, Zero, Met, met}

module _ (H : Bytes → Bytes) (k : Bytes) where
  -- the buffers begin with two messages that clash, and the answer tells their lengths
  pub record TwoShown (b1 b2 : Bytes) (o : Formed) : Type 0 where
    pub one : Bytes
    pub other : Bytes
    pub answered : o.finding ≡ clashing (length one) (length other)
    pub begins_first : take (length one) o.first ≡ one
    pub begins_second : take (length other) o.second ≡ other
    pub first_rest : drop (length one) o.first ≡ drop (length one) b1
    pub second_rest : drop (length other) o.second ≡ drop (length other) b2
    pub clash : Clash H k one other

  -- the first buffer begins with a message whose hash is all zeros, and the second stays
  pub record ZeroShown (b1 b2 : Bytes) (o : Formed) : Type 0 where
    pub one : Bytes
    pub answered : o.finding ≡ zeroed (length one)
    pub begins_first : take (length one) o.first ≡ one
    pub first_rest : drop (length one) o.first ≡ drop (length one) b1
    pub second_kept : o.second ≡ b2
    pub zero : Zero H k one

  pub data Ends (b1 b2 : Bytes) (o : Formed) : Type 0 where
    two_shown : TwoShown b1 b2 o → Ends b1 b2 o
    zero_shown : ZeroShown b1 b2 o → Ends b1 b2 o

  ends : (m : Meets) (b1 b2 : Bytes) → Met H k m → Ends b1 b2 (showing m b1 b2)
  ends (two a b) b1 b2 h = two_shown (record {
    one = a;
    other = b;
    answered = refl;
    begins_first = take-append_seam a (drop (length a) b1);
    begins_second = take-append_seam b (drop (length b) b2);
    first_rest = drop-append_seam a (drop (length a) b1);
    second_rest = drop-append_seam b (drop (length b) b2);
    clash = h;
  })
  ends (lone a) b1 b2 h = zero_shown (record {
    one = a;
    answered = refl;
    begins_first = take-append_seam a (drop (length a) b1);
    first_rest = drop-append_seam a (drop (length a) b1);
    second_kept = refl;
    zero = h;
  })

module _ (H : Bytes → Bytes) (hash_length : (m : Bytes) → length (H m) ≡ 32) (key root p q : Bytes) (one : check_presence H key root p ≡ done) (other : check_absence H key root q ≡ done) where
  accepted : eqb (check_presence H key root p) done ≡ true
  accepted = ap (λ (n : ℕ). eqb n done) one

  accepted' : eqb (check_absence H key root q) done ≡ true
  accepted' = ap (λ (n : ℕ). eqb n done) other

  -- THE CLASH THEOREM, FOR TWO ACCEPTED PROOFS
  pub opposed_met : Met H (handle H key) (meeting H 256 (handle H key) (rows_of p) (rows_of q))
  opposed_met =
      let f = full H key root p accepted in
      let g = empty H key root q accepted' in
      let lp = f.sized in
      met H hash_length 256 (handle H key) (rows_of p) (rows_of q) (rows_length _ p ∙ omega arith) (rows_whole _ p (omega arith)) (rows_whole _ q (omega arith)) (f.shown ∙ sym g.shown)

  -- AND FOR THE CALL: no third outcome
  pub clash_ends : (b1 b2 : Bytes) → roomy b1 b2 ≡ true → Ends H (handle H key) b1 b2 (clash_call H key root p q b1 b2)
  clash_ends b1 b2 room =
      rw (clash_is H key root p q b1 b2 room accepted accepted')
      (ends H (handle H key) (meeting H 256 (handle H key) (rows_of p) (rows_of q)) b1 b2 opposed_met)
