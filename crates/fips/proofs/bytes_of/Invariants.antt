-- `fips::bytes_of` meets its contract: the words lie one behind the other and fill the digest.
use Rattle.std.proofs.Common.{◌≡◌, ◌*◌, length, take}
use Rattle.fips.proofs.Laying.{bytes}
use Rattle.fips.proofs.bytes_of.Given as goal

abbrev pub invariant-loop-i : goal.invariant-loop-i
invariant-loop-i l = (length l.out ≡ 32) × (take (4 * l.i) l.out ≡ bytes (take l.i l.word-items))
