-- The component that stands in a proof: its length, and that it can be hashed.
use Rattle.std.specs.Prelude.{◌≡◌, ℕ, ◌+◌, ◌≤◌, length, drop}
use Rattle.std.proofs.Common.{arith, length-drop, length-take-le}
use Rattle.lists.specs.Bytes.{Bytes}
use Rattle.rules.specs.Numbers.{v1}
use Rattle.rules.specs.Messages.{size, part}
use Rattle.rules.proofs.Hops.{tz_few}

-- A component that stands inside a proof has its whole length,
pub part_length : (p : Bytes) (o j : ℕ) → o + size v1 j ≤ length p → length (part v1 p o j) ≡ size v1 j
part_length p o j h = length-take-le (size v1 j) (drop o p) (omega (arith, length-drop o p))

-- which is short, whatever the element.
pub size_short : (j : ℕ) → size v1 j ≤ 2112
size_short j = omega (arith, tz_few 64 j)
