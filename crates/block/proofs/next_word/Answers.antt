-- `block::next_word` meets its contract: the word at one place is replaced.
use Rattle.block.proofs.Scheduling.{replaced}
use Rattle.block.proofs.next_word.Goals as goal

pub returns : goal.returns
returns c =
    replaced c.args.i _ _ c.requires c.told-w c.later.ensures
