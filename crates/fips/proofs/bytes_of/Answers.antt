-- `fips::bytes_of` meets its contract: the words lie one behind the other and fill the digest.
use Rattle.std.proofs.Common.{◌≡◌, ◌∙◌, refl, sym, take_all, arith}
use Rattle.fips.proofs.Laying.{laid}
use Rattle.fips.proofs.bytes_of.Goals as goal

pub loop-i-init : goal.loop-i-init
loop-i-init c = (refl, refl)

pub loop-i-preserved : goal.loop-i-preserved
loop-i-preserved c =
    let l = c.loop-i in
    laid _ l.i l.out _ c.copy_from_slice.new.self _ refl (c.copy_from_slice.ensures.after ∙ c.to_be_bytes.ensures) (omega arith) l.invariant.0 c.loop-i-test.true refl l.invariant.1

pub returns : goal.returns
returns c =
    let l = c.loop-i in
    let e : l.i ≡ 8 = omega arith in
    let h = rw e at l.invariant.1 in
    sym (take_all 32 l.out (omega arith)) ∙ h
