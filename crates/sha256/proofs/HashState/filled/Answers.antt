-- `sha256::HashState::filled` meets its contract: where nothing is held, the block is the bytes themselves.
use Rattle.std.proofs.Common.{◌≡◌, ◌∙◌, ap, arith, rules, length}
use Rattle.fips.specs.Sha256.{compress}
use Rattle.sha256.proofs.Feeding.{empty_filled}
use Rattle.sha256.proofs.Storing.{copied, pasted}
use Rattle.sha256.proofs.HashState.filled.Goals as goal

pub returns-then-fill-eq0 : goal.returns-then-fill-eq0
returns-then-fill-eq0 c =
    let a = c.args in
    let l : length a.self.bytes ≡ 64 = search rules in
    empty_filled a.self a.bytes.now _ c.if-fill-eq0.true (omega arith) c.compress.ensures

pub returns : goal.returns
returns c =
    let a = c.args in
    let l : length a.self.bytes ≡ 64 = search rules in
    c.compress-2.ensures
    ∙ ap (compress _) (copied a.self.bytes c.copy_from_slice.new.self a.bytes.now a.self.fill _ c.copy_from_slice.ensures.after (omega arith) ∙ pasted a.self.bytes a.self.fill a.bytes.now (omega arith))
