-- `hmac::pad` meets its contract: the bytes before the index are XORed.
use Rattle.std.proofs.Common.{◌∙◌, get_or, set, ap, arith}
use Rattle.std.specs.Int.Bits.{bit_xor}
use Rattle.lists.specs.Bytes.{Bytes}
use Rattle.seals.proofs.Blocks.{halfway_none, halfway_next, halfway_all}
use Rattle.hmac.proofs.pad.Goals as goal

pub loop-byte-init : goal.loop-byte-init
loop-byte-init c = halfway_none c.args.with c.args.block

pub loop-byte-preserved : goal.loop-byte-preserved
loop-byte-preserved c =
    let l = c.loop-byte in
    let a = c.args in
    ap (λ (o : Bytes). set o l.byte-index (bit_xor (get_or o l.byte-index 0) a.with)) l.invariant ∙ halfway_next a.with a.block l.byte-index (omega arith)

pub returns : goal.returns
returns c = let l = c.loop-byte in l.invariant ∙ halfway_all _ _ l.byte-index (omega arith)
