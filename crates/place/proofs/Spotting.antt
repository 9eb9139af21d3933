-- What a spot says of two proofs.
use mathlib.Core.Path.{◌≡◌, refl}
use mathlib.Core.Option.{some}
use Prim.Native.Nat.{ℕ, ◌+◌, ◌≤◌}
use native.Mathlib.Omega.{arith}
use lib.ListN.{length}
use Rattle.std.specs.Prelude.{Option as Found, Some, None}
use Rattle.std.specs.Option.{option_or}
use Rattle.lists.specs.Bytes.{Bytes}
use Rattle.rules.specs.Numbers.{v1}
use Rattle.rules.specs.Paths.{path}
use Rattle.rules.specs.Messages.{size, total}
use Rattle.rules.specs.Dispute.{or_else, nearest}
use Rattle.rules.proofs.Spots.{nearest_inside}
use Rattle.place.specs.Places.{spot_of}
use Rattle.place.specs.declared.Spot.{Spot}

-- The first of two findings, if it is one; else the second.
pub either_spot : (a b : Found Spot) → spot_of (option_or a b) ≡ or_else (spot_of a) (spot_of b)
either_spot None b = refl
either_spot (Some x) b = refl

-- what was found stands inside both proofs
pub inside : (p q : Bytes) (i n j o : ℕ) → length p ≡ total v1 (path i n) → length q ≡ total v1 (path i n) → nearest v1 (path i n) p q 0 ≡ some (j, o)
    → (o + size v1 j ≤ length p) × (o + size v1 j ≤ length q)
inside p q i n j o lp lq e = let h = nearest_inside v1 p q (path i n) 0 j o e in (omega arith, omega arith)
