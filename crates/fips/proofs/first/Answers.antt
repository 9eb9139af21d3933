-- `fips::first` meets its contract: the words are FIPS's.
use mathlib.Core.Path.{refl}
use Rattle.fips.specs.Sha256.{H0}
use Rattle.fips.proofs.first.Goals as goal

pub returns : goal.returns
unfolding H0
returns c = refl
