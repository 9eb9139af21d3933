-- What falls at each call of `prove::siblings` is the levels below.
use Rattle.prove.proofs.+siblings.Given as goal

abbrev pub decreases-siblings : goal.decreases-siblings
decreases-siblings l = l.e
