-- `block::first_words` meets its contract: each turn of the loop stores the schedule's next word.
use Rattle.std.proofs.Common.{◌≡◌, length, take}
use Rattle.fips.specs.Sha256.{schedule}
use Rattle.block.proofs.first_words.Given as goal

abbrev pub invariant-loop-t : goal.invariant-loop-t
invariant-loop-t l = (length l.w ≡ 16) × (take l.t l.w ≡ schedule l.t l.block)
