-- `trie::root` meets its contract: a list that may be used is tidy below the root.
use Rattle.std.proofs.Common.{sym, ◌∙◌, arith}
use Rattle.trie.specs.Tidy.{tidy_all}
use Rattle.trie.proofs.root.Goals as goal

pub subtree-requires : goal.subtree-requires
subtree-requires c = (tidy_all _ (λ i. (c.type_inv.handles i).fits) (sym c.listed.ensures ∙ c.if-not-listed.false), omega arith)
