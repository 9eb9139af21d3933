-- `node::inner_message` meets its contract: the two sides behind 05.
use Rattle.std.proofs.Common.{rules, ◌≡◌, refl, length, replicate}
use Rattle.node.proofs.Inner.{inner_copied}
use Rattle.node.proofs.inner_message.Goals as goal
use Rattle.node.proofs.inner_message.Goals.{Start}

left_long : (c : Start) → length c.args.left.bytes ≡ 32
left_long c = search rules

right_long : (c : Start) → length c.args.right.bytes ≡ 32
right_long c = search rules

pub returns : goal.returns
returns c =
    let s = (goal.at.returns c).Start in
    inner_copied (replicate 65 5) c.copy_from_slice.new.self c.copy_from_slice-2.new.self c.args.left.bytes c.args.right.bytes refl refl (left_long s) (right_long s)
    c.copy_from_slice.ensures.after c.copy_from_slice-2.ensures.after
