-- What falls at each call of `trie::subtree` is the levels below.
use Rattle.trie.proofs.+subtree.Given as goal

abbrev pub decreases-subtree : goal.decreases-subtree
decreases-subtree l = l.e
