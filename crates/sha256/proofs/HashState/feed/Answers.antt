-- `sha256::HashState::feed` meets its contract: the bytes stay within the block under way, or fill it and run on from the front of a block.
use Rattle.std.proofs.Common.{◌≡◌, ◌∙◌, arith, rules, length}
use Rattle.sha256.proofs.Feeding.{fed_within, fed_over}
use Rattle.sha256.proofs.Storing.{copied, pasted}
use Rattle.sha256.proofs.HashState.feed.Goals as goal

pub returns-then-bytes-room : goal.returns-then-bytes-room
returns-then-bytes-room c =
    let a = c.args in
    let l : length a.self.bytes ≡ 64 = search rules in
    fed_within a.self a.bytes.now _ (omega arith)
    (copied a.self.bytes c.copy_from_slice.new.self a.bytes.now a.self.fill _ c.copy_from_slice.ensures.after (omega arith) ∙ pasted a.self.bytes a.self.fill a.bytes.now (omega arith))

pub returns : goal.returns
returns c =
    let a = c.args in
    fed_over a.self _ a.bytes.now _ (omega arith) c.if-bytes-room.false c.filled-first.ensures c.run.ensures
