-- `dispute::show::show_both` meets its contract: each buffer has its message, and the lengths are those of the messages.
use mathlib.Core.Path.{◌≡◌}
use mathlib.Core.List.{◌++◌}
use mathlib.Core.Option.{some}
use Prim.Native.Nat.{◌+◌}
use lib.ListN.{length, length-append}
use Rattle.std.specs.Prelude.{Some, Ok}
use Rattle.lists.specs.Bytes.{Bytes}
use Rattle.rules.specs.Calls.{over, showing}
use Rattle.dispute.specs.Answers.{finding_of, outcome}
use Rattle.dispute.proofs.show.show_both.Goals as goal

both : (head first second b1 b2 x y : Bytes) → x ≡ over (head ++ first) b1 → y ≡ over (head ++ second) b2
    → outcome (Ok (Some (record { first = length head + length first; second = length head + length second }))) x y ≡ showing (some (head ++ first, head ++ second)) b1 b2
unfolding finding_of
both head first second b1 b2 x y ex ey = rw (ex, ey, length-append head first, length-append head second)

pub returns : goal.returns
returns c =
    let a = c.args in
    both a.head.now a.first.now a.second.now a.out1.now a.out2.now _ _ c.show.ensures c.show-2.ensures
