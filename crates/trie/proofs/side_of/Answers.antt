-- `trie::side_of` meets its contract: the side that the bit names.
use Rattle.trie.specs.Tidy.{Sided}
use Rattle.trie.proofs.side_of.Goals as goal

pub returns-then-one : goal.returns-then-one
returns-then-one c = rw c.if-one.true c.sides.ensures.ones

pub returns-else-one : goal.returns-else-one
returns-else-one c = rw c.if-one.false c.sides.ensures.zeros
