-- `hmac::code` meets its contract: the message is hashed behind the first pad, and its digest behind the second.
use Rattle.std.proofs.Common.{◌≡◌, ◌≤◌, ◌+◌, ◌++◌, ◌∙◌, length, ap, ap₂, arith}
use Rattle.lists.specs.Bytes.{Bytes}
use Rattle.hash.specs.Hash.{hash_of, hash_length}
use Rattle.hash.specs.Joined.{joined_of, joined_short}
use Rattle.seals.specs.Hmac.{inner, outer, xored, key_block, hmac_of}
use Rattle.hmac.proofs.code.Goals as goal

-- the two digests, on plain lists
coded : (key m block first second inside r : Bytes) → block ≡ key_block hash_of key → first ≡ xored inner block → second ≡ xored outer block
    → inside ≡ joined_of first m → r ≡ joined_of second inside → length first + length m ≤ 65536 → length second ≤ 65504
    → r ≡ hmac_of hash_of key m
unfolding hmac_of
coded key m block first second inside r eb ef es ei er h k =
    let l : length inside ≡ 32 = ap length (ei ∙ joined_short first m h) ∙ hash_length (first ++ m) in
    er ∙ joined_short second inside (omega arith)
    ∙ ap₂ {A = Bytes} {B = Bytes} {C = Bytes} (λ a b. hash_of (a ++ b)) (es ∙ ap (xored outer) eb)
    (ei ∙ joined_short first m h ∙ ap (λ (a : Bytes). hash_of (a ++ m)) (ef ∙ ap (xored inner) eb))

pub returns : goal.returns
returns c =
    coded _ _ _ _ _ _ _ c.key_block-block.ensures c.pad.ensures c.pad-2.ensures c.joined-inside.ensures c.joined.ensures (omega arith) (omega arith)
