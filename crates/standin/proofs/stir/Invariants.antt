-- `standin::stir` meets its contract: what is left is stirred into what there is.
use Rattle.std.proofs.Common.{◌≡◌, ◌<◌, length, drop}
use Rattle.standin.specs.Stirred.{stirred}
use Rattle.standin.proofs.stir.Given as goal

abbrev pub invariant-loop-byte : goal.invariant-loop-byte
invariant-loop-byte l = (l.k < 32) × (length l.out ≡ 32) × (stirred l.at l.initial.out l.s ≡ stirred l.k l.out (drop l.byte-index l.s))
