-- `sha256::run` meets its contract: the whole blocks are chained, and what is left of the bytes is all that is held.
use Rattle.std.proofs.Common.{◌∙◌, ◌%◌, arith, length}
use Rattle.sha256.specs.Runs.{zeros}
use Rattle.sha256.proofs.Feeding.{ran, rest_of, rest_length}
use Rattle.sha256.proofs.Storing.{copied, pasted}
use Rattle.sha256.proofs.run.Goals as goal

pub returns : goal.returns
returns c =
    let m = c.args.bytes.now in
    let l = rest_length m in
    ran c.args.words _ c.args.total m _ c.chain.ensures
    (copied zeros c.copy_from_slice.new.self (rest_of m) 0 (length m % 64) c.copy_from_slice.ensures.after (omega arith) ∙ pasted zeros 0 (rest_of m) (omega arith))
