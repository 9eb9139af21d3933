-- `compare_line::difference` meets its contract: its four parts stand one behind the other.
use Rattle.std.proofs.Common.{◌≤◌, [], ◌∷◌, ap, arith, length, length-append, append_assoc}
use Rattle.copies.specs.Line.{decimal, words}
use Rattle.compare_line.proofs.Digits.{decimal_short}
use Rattle.compare_line.proofs.difference.Goals as goal
use Rattle.compare_line.proofs.difference.Goals.{After-push_number}

-- the word and the first number
begun : (c : After-push_number) → length c.push_number.new.self ≤ 27
begun c = omega (arith, ap length c.push_number.ensures, ap length c.of-text.ensures, length-append c.of-text.result (decimal c.args.element), decimal_short c.args.element)

pub push-requires : goal.push-requires
push-requires c = omega (arith, begun (goal.at.push-requires c).After-push_number)

pub push_number-requires-2 : goal.push_number-requires-2
push_number-requires-2 c =
    let h = begun (goal.at.push_number-requires-2 c).After-push_number in
    omega (arith, ap length c.push.ensures, length-append c.push_number.new.self (32 ∷ []))

pub returns : goal.returns
unfolding words
returns c = rw (c.push_number-2.ensures, c.push.ensures, c.push_number.ensures, c.of-text.ensures) (simp append_assoc)
