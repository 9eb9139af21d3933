-- `place::differing` meets its contract: the part stands inside the second proof, and is lent as it lies.
use Rattle.std.proofs.Common.{◌≡◌, ◌+◌, ◌≤◌, ℕ, Some, length, arith}
use Rattle.lists.specs.Bytes.{Bytes}
use Rattle.rules.specs.Numbers.{v1}
use Rattle.rules.specs.Dispute.{differing}
use Rattle.place.specs.Places.{part_is, differing_inside}
use Rattle.place.specs.declared.Part.{Part}
use Rattle.place.proofs.differing.Goals as goal
use Rattle.place.proofs.differing.Goals.{In-Some}

inside : (x : Part) (i n : ℕ) (p q : Bytes) → part_is (Some x) ≡ differing v1 i n p q → x.from + x.size ≤ length q
inside x i n p q e = rw (← e) at (differing_inside i n p q)

within : (c : In-Some) → let part = c.in-Some.part in part.from + part.size ≤ length c.args.second.now
within c = let a = c.args in inside c.in-Some.part a.i.0 a.n.0 a.first.now a.second.now c.in-Some.ensures.part

pub overflow_add-end : goal.overflow_add-end
overflow_add-end c = omega (arith, within (goal.at.overflow_add-end c).In-Some)

pub slice_bounds-result-end-2 : goal.slice_bounds-result-end-2
slice_bounds-result-end-2 c = within (goal.at.slice_bounds-result-end-2 c).In-Some
