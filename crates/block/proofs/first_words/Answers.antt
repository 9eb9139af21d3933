-- `block::first_words` meets its contract: each turn of the loop stores the schedule's next word.
use Rattle.std.proofs.Common.{arith, refl, length-set}
use Rattle.fips.specs.Sha256.{schedule}
use Rattle.block.proofs.Scheduling.{step_load, loaded}
use Rattle.block.proofs.first_words.Goals as goal

pub loop-t-init : goal.loop-t-init
unfolding schedule
loop-t-init c = (c.told-w, refl)

pub loop-t-preserved : goal.loop-t-preserved
loop-t-preserved c =
    let l = c.loop-t in
    (simp length-set l.invariant.0, step_load _ l.w l.t _ (omega arith) (omega arith) l.invariant.1 c.load.ensures)

pub returns : goal.returns
returns c =
    let l = c.loop-t in
    loaded _ l.w l.t (omega arith) l.invariant.0 l.invariant.1
