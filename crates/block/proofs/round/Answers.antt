-- `block::round` meets its contract: the sums are those of T1 and T2, T1's in another order.
use Rattle.fips.specs.Sha256.{Σ1, ch, round, T1, T2}
use Rattle.block.proofs.Choosing.{reordered}
use Rattle.block.proofs.round.Goals as goal

pub returns : goal.returns
unfolding round T1 T2
returns c =
    let a = c.args in
    let v = a.v in
    rw (c.maj.ensures, c.big0.ensures, c.big1.ensures, c.ch.ensures, reordered v.h (Σ1 v.e) (ch v.e v.f v.g) a.k a.w)
