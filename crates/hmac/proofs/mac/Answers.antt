-- `hmac::mac` meets its contract: each return fixes the tests up to it.
use Rattle.std.proofs.Common.{◌∙◌, sym, ap, arith}
use Rattle.hash.specs.Hash.{hash_of}
use Rattle.rules.specs.Refusals.{done}
use Rattle.rules.specs.Calls.{found}
use Rattle.seals.proofs.Blocks.{key_long_lem, message_long, mac_done}
use Rattle.hmac.proofs.mac.Goals as goal
use Rattle.hmac.proofs.mac.Goals.{then-key-gt-LIMIT-via-then-key-gt-LIMIT, then-key-gt-LIMIT-via-else-key-gt-LIMIT+then-message}

pub returns-then-key-gt-LIMIT : goal.returns-then-key-gt-LIMIT
returns-then-key-gt-LIMIT c =
    let a = c.args in
    elim c.then-key-gt-LIMIT.branch [
      | then-key-gt-LIMIT-via-then-key-gt-LIMIT w ↦ sym (key_long_lem hash_of a.key.now a.message.now (omega arith))
      | then-key-gt-LIMIT-via-else-key-gt-LIMIT+then-message w ↦ sym (message_long hash_of a.key.now a.message.now (omega arith) (omega arith))
    ]

pub returns : goal.returns
returns c =
    let a = c.args in
    ap (found done) c.code.ensures ∙ sym (mac_done hash_of a.key.now a.message.now (omega arith) (omega arith))
