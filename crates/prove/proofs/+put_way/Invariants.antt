-- What falls at each call of `prove::put_way` is the levels below.
use Rattle.prove.proofs.+put_way.Given as goal

abbrev pub decreases-put_way : goal.decreases-put_way
decreases-put_way l = l.e
