-- `hmac::key_block` meets its contract: the key, or its digest, is written over the first of 64 zeros.
use Rattle.std.proofs.Common.{◌++◌, ◌∙◌, ◌-◌, [], ℕ, length, replicate, sym, ap, ap₂, append-nil, arith}
use Rattle.std.proofs.lemmas.List.{drop-replicate}
use Rattle.lists.specs.Bytes.{Bytes}
use Rattle.hash.specs.Hash.{hash_of, hash_length}
use Rattle.hash.specs.Joined.{hashed}
use Rattle.seals.proofs.Blocks.{block_long, block_short}
use Rattle.hmac.proofs.key_block.Goals as goal

pub returns-then-key-gt-BLOCK : goal.returns-then-key-gt-BLOCK
returns-then-key-gt-BLOCK c =
    let key = c.args.key.now in
    let e = c.copy_from_slice.ensures.after ∙ hashed _ key [] key c.joined.ensures (omega arith) (append-nil key) in
    ap (λ (x : Bytes). x ++ replicate 32 0) e ∙ ap (λ (n : ℕ). hash_of key ++ replicate (64 - n) 0) (sym (hash_length key))
    ∙ sym (block_long hash_of key c.if-key-gt-BLOCK.true)

pub returns-else-key-gt-BLOCK : goal.returns-else-key-gt-BLOCK
returns-else-key-gt-BLOCK c =
    let key = c.args.key.now in
    ap₂ {A = Bytes} {B = Bytes} {C = Bytes} (λ x y. x ++ y) c.copy_from_slice-else-key-gt-BLOCK.ensures.after (drop-replicate (length key) 64 0)
    ∙ sym (block_short hash_of key (omega arith))
