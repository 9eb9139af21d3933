-- `sha256::chain` meets its contract: with k blocks behind it, the hash value is that after k blocks.
use Rattle.std.proofs.Common.{◌≡◌, ◌*◌, ◌≤◌, length, drop}
use Rattle.std.specs.Slice.Iter.{chunks_exact_rest, chunks_exact_size}
use Rattle.fips.specs.Sha256.{chained}
use Rattle.sha256.proofs.chain.Given as goal

abbrev pub invariant-loop-block : goal.invariant-loop-block
invariant-loop-block l =
    record {
      size : chunks_exact_size l.block-iterator ≡ 64;
      fits : 64 * length l.yielded ≤ length l.bytes;
      at : chunks_exact_rest l.block-iterator ≡ drop (64 * length l.yielded) l.bytes;
      value : l.v ≡ chained l.initial.v (length l.yielded) l.bytes;
    }
