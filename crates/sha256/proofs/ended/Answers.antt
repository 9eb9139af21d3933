-- `sha256::ended` meets its contract: the whole blocks are chained, and what is left of the bytes is padded.
use Rattle.sha256.proofs.Feeding.{ended_run}
use Rattle.sha256.proofs.ended.Goals as goal

pub returns : goal.returns
returns c =
    let a = c.args in
    ended_run a.words _ _ a.bytes.now a.total c.chain.ensures c.padded.ensures
