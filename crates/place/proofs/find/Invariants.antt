-- `place::find` meets its contract: what differs further on goes before what was found so far.
use mathlib.Core.Path.{◌≡◌}
use mathlib.Core.Option.{Option}
use Prim.Native.Nat.{ℕ, ◌+◌, ◌-◌, ◌≤◌}
use lib.ListN.{length}
use Rattle.lists.specs.Bytes.{Bytes}
use Rattle.rules.specs.Numbers.{v1}
use Rattle.rules.specs.Paths.{path, path_after}
use Rattle.rules.specs.Messages.{total}
use Rattle.rules.specs.Dispute.{or_else, nearest}
use Rattle.place.specs.Places.{spot_of}
use Rattle.place.proofs.find.Given as goal

-- s was found up to j; the components behind that of j begin at `at`
pub record Seen (n : ℕ) (p q : Bytes) (i : ℕ) (s : Option (ℕ × ℕ)) (at j : ℕ) : Type 0 where
  pub high : j ≤ n
  pub first_left : length p ≡ at + total v1 (path_after j n)
  pub second_left : length q ≡ at + total v1 (path_after j n)
  pub keeps : nearest v1 (path i n) p q 0 ≡ or_else (nearest v1 (path_after j n) p q at) s

abbrev pub invariant-loop-j : goal.invariant-loop-j
invariant-loop-j l = Seen l.n.0 l.first l.second l.initial.j.0 (spot_of l.spot) l.at l.j.0

abbrev pub decreases-loop-j : goal.decreases-loop-j
decreases-loop-j l = l.n.0 - l.j.0
