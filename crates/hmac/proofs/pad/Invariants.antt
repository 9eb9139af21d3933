-- `hmac::pad` meets its contract: the bytes before the index are XORed.
use Rattle.std.proofs.Common.{◌≡◌}
use Rattle.seals.proofs.Blocks.{halfway}
use Rattle.hmac.proofs.pad.Given as goal

abbrev pub invariant-loop-byte : goal.invariant-loop-byte
invariant-loop-byte l = l.byte-items ≡ halfway l.with l.initial.byte-items l.byte-index
