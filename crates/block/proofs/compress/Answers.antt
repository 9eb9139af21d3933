-- `block::compress` meets its contract: sixteen rounds after sixteen, each with its words ready.
use Rattle.std.proofs.Common.{arith}
use Rattle.block.proofs.Scheduling.{reached_first, reached_next, compressed}
use Rattle.block.proofs.compress.Goals as goal

pub returns : goal.returns
returns c =
    let a = c.args in
    let m = a.block.now in
    let s = a.s in
    let r0 = reached_first m s c.first_words.ensures in
    let r1 = reached_next 0 m s (omega arith) r0 c.sixteen_rounds-v1.ensures in
    let r2 = reached_next 1 m s (omega arith) r1 c.sixteen_rounds-v2.ensures in
    let r3 = reached_next 2 m s (omega arith) r2 c.sixteen_rounds-v3.ensures in
    let r4 = reached_next 3 m s (omega arith) r3 c.sixteen_rounds.ensures in
    compressed m s r4.rounded c.plus.ensures
