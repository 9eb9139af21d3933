-- `sha256::HashState::begin` meets its contract: no block is behind it, and it holds nothing.
use mathlib.Core.Path.{ap}
use Rattle.fips.specs.declared.Words.{Words}
use Rattle.sha256.specs.Stream.{emptied, begun}
use Rattle.sha256.proofs.HashState.begin.Goals as goal

pub returns : goal.returns
unfolding begun
returns c = ap (λ (w : Words). emptied w 0) c.first.ensures
