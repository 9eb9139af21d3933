-- `trie::sides` meets its contract: the handles with bit 0 stand first.
use Rattle.trie.proofs.Sorting.{cut_within, ones_side, zeros_side}
use Rattle.trie.proofs.sides.Goals as goal

pub split_at-requires : goal.split_at-requires
split_at-requires c = cut_within _ c.args.e _ c.requires.0 c.ones_from.ensures

pub returns-clause-zeros : goal.returns-clause-zeros
returns-clause-zeros c = rw c.split_at.ensures.front (zeros_side _ _ _ c.requires.0 c.ones_from.ensures)

pub returns-clause-ones : goal.returns-clause-ones
returns-clause-ones c = rw c.split_at.ensures.back (ones_side _ _ _ c.requires.0 c.ones_from.ensures)
