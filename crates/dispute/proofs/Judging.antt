-- What `dispute` answers, by its tests: facts on plain lists that its proof cites.
use mathlib.Core.Path.{◌≡◌, refl, sym, ap, ◌∙◌}
use mathlib.Core.Bool.{Bool, true, false}
use Prim.Native.Nat.{ℕ, ◌≤◌, ◌<◌}
use lib.ListN.{length}
use Rattle.std.specs.Prelude.{Err, is_ok}
use borrow.Author.Tests.{le-leb, lt-leb}
use Rattle.lists.specs.Bytes.{Bytes}
use Rattle.hash.specs.Hash.{hash_of}
use Rattle.rules.specs.Numbers.{v1}
use Rattle.rules.specs.Checking.{Verdict, is_accepted, member}
use Rattle.rules.specs.Dispute.{dispute, message_room, roomy}
use Rattle.rules.specs.Calls.{Disputed, showing, both_accepted, dispute_call}
use Rattle.rules.proofs.Verdicts.{accepted_some, between_true}
use Rattle.rules.proofs.Acceptance.{accepts}
use Rattle.rules.proofs.Spots as spots
use Rattle.membership.specs.Verdicts.{Verdict as Found, verdict_of, accepted_ok}
use Rattle.dispute.specs.Answers.{Answer, finding_of, outcome}
use Rattle.dispute.specs.Ready.{Ready}
use Rattle.dispute.specs.declared.settle.Side.TheVariants as side
use Rattle.dispute.specs.declared.settle.DisputeError.TheVariants.{BufferShort, NotAccepted}

-- what the test of a checked proof says of the rules' verdict
pub heard : (e : Bytes) (i n : ℕ) (D p : Bytes) (v : Found) (t : Bool) → verdict_of v ≡ member hash_of v1 e i n D p → is_ok v ≡ t
    → is_accepted (member hash_of v1 e i n D p) ≡ t
heard e i n D p v t ev et = ap is_accepted (sym ev) ∙ sym (accepted_ok v) ∙ et

module _ (e1 p1 e2 p2 : Bytes) (i n : ℕ) (D b1 b2 : Bytes) where
  -- the rules' outcome, and the two verdicts in it
  abbrev Here : Disputed
  Here = dispute_call hash_of v1 e1 p1 e2 p2 i n D b1 b2

  abbrev one : Verdict ℕ
  one = member hash_of v1 e1 i n D p1

  abbrev two : Verdict ℕ
  two = member hash_of v1 e2 i n D p2

  abbrev pub First : Bool
  First = is_accepted one

  abbrev pub Second : Bool
  Second = is_accepted two

  short : roomy b1 b2 ≡ false → outcome (Err BufferShort) b1 b2 ≡ Here
  unfolding finding_of
  short e = sym (spots.disputed_is hash_of v1 e1 p1 e2 p2 i n D b1 b2 e refl refl refl)

  pub first_short : length b1 < message_room → outcome (Err BufferShort) b1 b2 ≡ Here
  first_short h = short (rw (lt-leb message_room (length b1) h))

  pub second_short : message_room ≤ length b1 → length b2 < message_room → outcome (Err BufferShort) b1 b2 ≡ Here
  second_short h k = short (rw (le-leb message_room (length b1) h, lt-leb message_room (length b2) k))

  module _ (h : message_room ≤ length b1) (k : message_room ≤ length b2) where
    abbrev shows : Disputed
    shows = showing (dispute v1 i n e1 e2 p1 p2) b1 b2

    long : Here ≡ both_accepted one two shows b1 b2
    long =
        let room : roomy b1 b2 ≡ true = rw (le-leb message_room (length b1) h, le-leb message_room (length b2) k) in
        spots.disputed_is hash_of v1 e1 p1 e2 p2 i n D b1 b2 room refl refl refl

    pub first_refused : First ≡ false → outcome (Err (NotAccepted side.First)) b1 b2 ≡ Here
    unfolding finding_of
    first_refused a = sym (long ∙ spots.first_refused shows b1 b2 one two a)

    pub second_refused : First ≡ true → Second ≡ false → outcome (Err (NotAccepted side.Second)) b1 b2 ≡ Here
    unfolding finding_of
    second_refused a c = sym (long ∙ spots.second_refused shows b1 b2 one two a c)

    module _ (a : First ≡ true) (c : Second ≡ true) where
      pub settled_as : (r : Answer) (x y : Bytes) → outcome r x y ≡ shows → outcome r x y ≡ Here
      settled_as r x y e = e ∙ sym (long ∙ spots.none_refused shows b1 b2 one two a c)

      pub ready : Ready e1 p1 e2 p2 i n b1 b2
      ready =
          let m1 = accepted_some one a in
          let m2 = accepted_some two c in
          let x = accepts hash_of v1 e1 i n D p1 m1.0 m1.1 in
          let y = accepts hash_of v1 e2 i n D p2 m2.0 m2.1 in
          record {
            high = (between_true v1 i n x.between).1;
            entry1_fits = x.entry_fits;
            entry2_fits = y.entry_fits;
            proof1_sized = x.sized;
            proof2_sized = y.sized;
            room1 = h;
            room2 = k;
          }
