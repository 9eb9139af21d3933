-- `compare::first_difference` meets its contract: the search of all elements is the search of those that are left, and so is that of the bytes of one.
use mathlib.Core.Path.{◌≡◌}
use Prim.Native.Nat.{◌+◌, ◌-◌, ◌≤◌}
use Rattle.std.specs.Prelude.{None}
use Rattle.rules.specs.Numbers.{v1}
use Rattle.copies.specs.Comparing.{first_not, same_element, same_byte}
use Rattle.compare.proofs.first_difference.Given as goal

abbrev pub invariant-loop-b : goal.invariant-loop-b
invariant-loop-b l = record { none : l.found ≡ None; left : first_not (same_byte l.x l.y) 0 64 ≡ first_not (same_byte l.x l.y) l.b (64 - l.b) }

abbrev pub invariant-elements : goal.invariant-elements
invariant-elements l = record {
  none : l.found ≡ None;
  within : l.j ≤ l.fn.n.0 + 1;
  left : first_not (same_element v1 l.first l.second) 1 l.fn.n.0 ≡ first_not (same_element v1 l.first l.second) l.j (l.fn.n.0 + 1 - l.j);
}
