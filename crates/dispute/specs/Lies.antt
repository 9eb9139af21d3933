-- THE DISPUTE, FOR THE CODE. The hypotheses are what the calls' contracts say: both checks answered Ok, and the dispute answered r and left
-- x and y in the buffers. Then r is Ok with no lengths, and entries and proofs are equal and the buffers as they were; or the buffers begin with two different
-- messages of a published form that have one hash, r tells their lengths, and the rest of the buffers is as it was.
use Rattle.std.specs.Prelude.{◌≡◌, ℕ, ◌≤◌, length, take, drop, None, Some, Ok}
use Rattle.std.proofs.Common.{sym}
use Rattle.std.proofs.Math.Bool.{true}
use borrow.Author.Tests.{le-leb}
use Rattle.lists.specs.Bytes.{Bytes}
use Rattle.hash.specs.Hash.{hash_of}
use Rattle.rules.specs.Numbers.{v1}
use Rattle.rules.specs.Checking.{member}
use Rattle.rules.specs.Dispute.{message_room, roomy}
use Rattle.rules.specs.Calls.{dispute_call}
use Rattle.rules.proofs.Settled.{Clash}
use Rattle.rules.proofs.Shown as Rules
use Rattle.membership.specs.Verdicts.{verdict_of}
use Rattle.dispute.specs.Answers.{Answer, finding_of, outcome, one_answer}

module _ (e1 p1 e2 p2 b1 b2 : Bytes) (r : Answer) (x y : Bytes) where
  -- nothing differs, and nothing was written
  pub record Alike : Type 0 where
    pub answered : r ≡ Ok None
    pub entries : e1 ≡ e2
    pub proofs : p1 ≡ p2
    pub first_kept : x ≡ b1
    pub second_kept : y ≡ b2

  -- the buffers begin with two different messages of a published form that have one hash
  pub record Lie : Type 0 where
    pub one : Bytes
    pub two : Bytes
    pub answered : r ≡ Ok (Some (record { first = length one; second = length two }))
    pub begins_first : take (length one) x ≡ one
    pub begins_second : take (length two) y ≡ two
    pub first_rest : drop (length one) x ≡ drop (length one) b1
    pub second_rest : drop (length two) y ≡ drop (length two) b2
    pub clash : Clash hash_of v1 one two

  pub data Decided : Type 0 where
    alike : Alike → Decided
    lie : Lie → Decided

  decided : Rules.Ends hash_of v1 e1 p1 e2 p2 b1 b2 (outcome r x y) → Decided
  unfolding finding_of
  decided (Rules.same s) = alike (record {
    answered = one_answer r (Ok None) s.answered;
    entries = s.entries;
    proofs = s.proofs;
    first_kept = s.first_kept;
    second_kept = s.second_kept;
  })
  decided (Rules.clashing s) = lie (record {
    one = s.one;
    two = s.two;
    answered = one_answer r (Ok (Some (record { first = length s.one; second = length s.two }))) s.answered;
    begins_first = s.begins_first;
    begins_second = s.begins_second;
    first_rest = s.first_rest;
    second_rest = s.second_rest;
    clash = s.clash;
  })

  pub dispute_decides : (i n : ℕ) (D : Bytes) (k1 k2 : ℕ) → message_room ≤ length b1 → message_room ≤ length b2
      → verdict_of (Ok k1) ≡ member hash_of v1 e1 i n D p1 → verdict_of (Ok k2) ≡ member hash_of v1 e2 i n D p2
      → outcome r x y ≡ dispute_call hash_of v1 e1 p1 e2 p2 i n D b1 b2 → Decided
  unfolding verdict_of
  dispute_decides i n D k1 k2 l1 l2 a1 a2 o =
      let room : roomy b1 b2 ≡ true = rw (le-leb message_room (length b1) l1, le-leb message_room (length b2) l2) in
      decided (rw o (Rules.dispute_ends hash_of v1 e1 p1 e2 p2 i n D b1 b2 k1 k2 room (sym a1) (sym a2)))
