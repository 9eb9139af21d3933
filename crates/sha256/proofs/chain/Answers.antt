-- `sha256::chain` meets its contract: with k blocks behind it, the hash value is that after k blocks.
use Rattle.std.proofs.Common.{◌≡◌, ◌+◌, ◌∙◌, ◌++◌, [], ◌∷◌, arith, rules, length}
use Rattle.std.proofs.lemmas.List.{length_push}
use Rattle.fips.specs.Sha256.{chained}
use Rattle.sha256.proofs.Feeding.{chained_further, chained_whole}
use Rattle.sha256.proofs.chain.Goals as goal

pub loop-block-init : goal.loop-block-init
unfolding chained
loop-block-init c = search rules

pub loop-block-preserved : goal.loop-block-preserved
loop-block-preserved c =
    let l = c.loop-block in
    let i = l.invariant in
    let n = c.in-Some.ensures.steps in
    let m = c.args.bytes.now in
    let k : length (l.yielded ++ c.in-Some.block ∷ []) ≡ length l.yielded + 1 = length_push l.yielded c.in-Some.block in
    let f = chained_further c.args.s l.v m _ (length l.yielded) i.at i.value _ c.in-Some.block.now _ n.1.0 (n.1.1 ∙ i.size) c.compress-v.ensures in
    record { size = n.0 ∙ i.size; fits = rw k f.0; at = rw k f.1; value = rw k f.2 }

pub returns : goal.returns
returns c =
    let i = c.loop-block.invariant in
    let n = c.in-None.ensures.steps in
    chained_whole c.args.s c.loop-block.v c.args.bytes.now _ (length c.loop-block.yielded) i.at i.value (omega arith) i.fits
