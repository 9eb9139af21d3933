-- `build::put_after` meets its contract: what is still to be written, over what stands there, comes to the same at each turn.
use mathlib.Core.Path.{◌≡◌}
use Prim.Native.Nat.{ℕ, ◌+◌, ◌-◌, ◌≤◌}
use lib.ListN.{length}
use lib.Seq.{paste}
use Rattle.lists.specs.Bytes.{Bytes}
use Rattle.hash.specs.Hash.{hash_of}
use Rattle.rules.specs.Numbers.{v1}
use Rattle.rules.specs.Paths.{path_after}
use Rattle.rules.specs.Messages.{total}
use Rattle.build.specs.Parts.{advancement_in}
use Rattle.build.proofs.put_after.Given as goal

-- o with the components behind j written from index k on
abbrev pub ahead : Bytes → ℕ → Bytes → ℕ → ℕ → Bytes
ahead s n o k j = paste o k (advancement_in hash_of v1 s j n) (total v1 (path_after j n))

abbrev pub invariant-loop-j : goal.invariant-loop-j
invariant-loop-j l = (l.j.0 ≤ l.n.0) × (length l.out ≡ length l.initial.out) × (l.to + total v1 (path_after l.j.0 l.n.0) ≤ length l.out)
    × (ahead l.s l.n.0 l.initial.out l.initial.to l.initial.j.0 ≡ ahead l.s l.n.0 l.out l.to l.j.0)

abbrev pub decreases-loop-j : goal.decreases-loop-j
decreases-loop-j l = l.n.0 - l.j.0
