-- THE CLASH, FOR THE CODE. The hypotheses are what the contracts say: both checks answered Ok, and the routine answered r and left x and y in the
-- buffers. Then the buffers begin with two different messages of equal hash, or the first begins with a message whose hash is all zeros; r tells the
-- lengths, and the rest of the buffers is as it was. And one outcome: two answers, and the buffers after them, that meet the contract are the same.
use Rattle.std.specs.Prelude.{◌≡◌, true, ◌≤◌, length, Result, Ok}
use Rattle.std.proofs.Common.{sym, ap, le-leb}
use Rattle.lists.specs.Bytes.{Bytes}
use Rattle.hash.specs.Hash.{hash_of, hash_length}
use Rattle.rules.proofs.OneOutcome.{One, one_outcome}
use Rattle.dictionary.specs.Handles.{handle}
use Rattle.dictionary.specs.Calls.{Formed, formed, roomy, check_presence, check_absence, clash_call}
use Rattle.dictionary.proofs.Shown.{Ends, clash_ends}
use Rattle.lookup.specs.Told.{verdict_number}
use Rattle.clash.specs.Told.{clash_told, clash_from, clash_back}
use Rattle.clash.specs.declared.show.Clashed.{Clashed}
use Rattle.clash.specs.declared.show.ClashError.{ClashError}

-- an answer, and the two buffers after the call
abbrev pub outcome : Result Clashed ClashError × Bytes × Bytes → Formed
outcome x = formed (clash_told x.0) x.1 x.2

pub clash_one : (key root p q b1 b2 : Bytes) → One outcome (clash_call hash_of key root p q b1 b2)
clash_one key root p q b1 b2 =
    one_outcome outcome (λ (o : Formed). (clash_from o.finding, o.first, o.second)) (λ x. ap (λ (a : Result Clashed ClashError). (a, x.1, x.2)) (clash_back x.0))
    (clash_call hash_of key root p q b1 b2)

-- NO THIRD OUTCOME
pub clash_shown : (key root p q b1 b2 x y : Bytes) (r : Result Clashed ClashError) → 65 ≤ length b1 → 65 ≤ length b2
    → verdict_number (Ok tt) ≡ check_presence hash_of key root p → verdict_number (Ok tt) ≡ check_absence hash_of key root q
    → outcome (r, x, y) ≡ clash_call hash_of key root p q b1 b2 → Ends hash_of (handle hash_of key) b1 b2 (outcome (r, x, y))
unfolding verdict_number
clash_shown key root p q b1 b2 x y r l1 l2 one other met =
    let room : roomy b1 b2 ≡ true = rw (le-leb 65 (length b1) l1, le-leb 65 (length b2) l2) in
    rw met (clash_ends hash_of hash_length key root p q (sym one) (sym other) b1 b2 room)
