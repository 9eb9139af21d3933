-- The dispute theorem for the whole outcome of the call. Two accepted proofs, and buffers that are long enough: then entries and proofs are the same
-- and nothing is written, or the two buffers begin with two different messages of a published form that have one hash, and the rest of them stays.
use Rattle.std.specs.Prelude.{◌≡◌, refl, true, ℕ, length, take, drop}
use Rattle.std.proofs.Math.Option.{Option, none, some}
use Rattle.std.proofs.Math.Seq.{take-append_seam, drop-append_seam}
use Rattle.lists.specs.Bytes.{Bytes}
use Rattle.rules.specs.Numbers.{Version}
use Rattle.rules.specs.Checking.{accepted, member}
use Rattle.rules.specs.Dispute.{dispute, roomy}
use Rattle.rules.specs.Calls.{Disputed, all_same, shown, showing, dispute_call}
use Rattle.rules.proofs.Settled.{Clash, Settled, settled}
use Rattle.rules.proofs.Spots.{disputed_is}

-- nothing differs, and nothing is written
pub record Same (e1 p1 e2 p2 b1 b2 : Bytes) (o : Disputed) : Type 0 where
  pub answered : o.finding ≡ all_same
  pub entries : e1 ≡ e2
  pub proofs : p1 ≡ p2
  pub first_kept : o.first ≡ b1
  pub second_kept : o.second ≡ b2

module _ (H : Bytes → Bytes) (v : Version) where
  -- the buffers begin with two messages that clash, and the answer tells their lengths
  pub record Clashing (b1 b2 : Bytes) (o : Disputed) : Type 0 where
    pub one : Bytes
    pub two : Bytes
    pub answered : o.finding ≡ shown (length one) (length two)
    pub begins_first : take (length one) o.first ≡ one
    pub begins_second : take (length two) o.second ≡ two
    pub first_rest : drop (length one) o.first ≡ drop (length one) b1
    pub second_rest : drop (length two) o.second ≡ drop (length two) b2
    pub clash : Clash H v one two

  -- how a dispute ends
  pub data Ends (e1 p1 e2 p2 b1 b2 : Bytes) (o : Disputed) : Type 0 where
    same : Same e1 p1 e2 p2 b1 b2 o → Ends e1 p1 e2 p2 b1 b2 o
    clashing : Clashing b1 b2 o → Ends e1 p1 e2 p2 b1 b2 o

  ends : (e1 p1 e2 p2 b1 b2 : Bytes) (z : Option (Bytes × Bytes)) → Settled H v ((e1 ≡ e2) × (p1 ≡ p2)) z → Ends e1 p1 e2 p2 b1 b2 (showing z b1 b2)
  ends e1 p1 e2 p2 b1 b2 none s = same (record { answered = refl; entries = s.0; proofs = s.1; first_kept = refl; second_kept = refl })
  ends e1 p1 e2 p2 b1 b2 (some m) s = clashing (record {
    one = m.0;
    two = m.1;
    answered = refl;
    begins_first = take-append_seam m.0 (drop (length m.0) b1);
    begins_second = take-append_seam m.1 (drop (length m.1) b2);
    first_rest = drop-append_seam m.0 (drop (length m.0) b1);
    second_rest = drop-append_seam m.1 (drop (length m.1) b2);
    clash = s;
  })

  -- THE DISPUTE THEOREM, FOR THE CALL.
  pub dispute_ends : (e1 p1 e2 p2 : Bytes) (i n : ℕ) (D b1 b2 : Bytes) (m1 m2 : ℕ) → roomy b1 b2 ≡ true
      → member H v e1 i n D p1 ≡ accepted m1 → member H v e2 i n D p2 ≡ accepted m2
      → Ends e1 p1 e2 p2 b1 b2 (dispute_call H v e1 p1 e2 p2 i n D b1 b2)
  dispute_ends e1 p1 e2 p2 i n D b1 b2 m1 m2 r a1 a2 =
      rw (disputed_is H v e1 p1 e2 p2 i n D b1 b2 r a1 a2 refl)
      (ends e1 p1 e2 p2 b1 b2 (dispute v i n e1 e2 p1 p2) (settled H v e1 e2 i n D p1 p2 m1 m2 a1 a2))
