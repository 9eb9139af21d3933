-- `sha256::ended_by` meets its contract: both strings stay within one block, or fill it and go on.
use native.Mathlib.Omega.{arith}
use Rattle.sha256.proofs.Feeding.{ended_within, ended_over}
use Rattle.sha256.proofs.ended_by.Goals as goal

pub returns-then-bytes-room : goal.returns-then-bytes-room
returns-then-bytes-room c =
    let a = c.args in
    ended_within a.words _ a.rest.now a.bytes.now _ _ a.total c.put.ensures (omega arith) c.put-then-bytes-room.ensures c.padded.ensures

pub returns : goal.returns
returns c =
    ended_over c.args.words _ c.args.rest.now c.args.bytes.now _ _ c.args.total c.put.ensures _ c.requires.0 c.if-bytes-room.false c.put-2.ensures c.compress.ensures c.ended.ensures
