-- `clash::meet::full_message` meets its contract: the message of the leaf, or of the inner node at that depth.
use Rattle.std.proofs.Common.{ap, ◌∙◌, arith}
use Rattle.dictionary.specs.Meeting.{lone}
use Rattle.clash.proofs.Meets.{full_sized, at_leaf, at_inner}
use Rattle.clash.proofs.meet.full_message.Goals as goal

pub returns-then-depth-eq256 : goal.returns-then-depth-eq256
returns-then-depth-eq256 c = ap lone (c.leaf_message.ensures ∙ at_leaf c.args.key.bytes c.args.presence.now c.args.depth c.if-depth-eq256.true)

pub climb-own-requires : goal.climb-own-requires
climb-own-requires c = let e = c.requires.0 in (full_sized _ e, omega (arith, c.if-depth-eq256.false, c.requires.1))

pub sibling_at-sibling-requires : goal.sibling_at-sibling-requires
sibling_at-sibling-requires c = let e = c.requires.0 in (full_sized _ e, omega (arith, c.if-depth-eq256.false, c.requires.1))

pub returns : goal.returns
returns c =
    let e = c.requires.0 in
    ap lone (at_inner c.args.key.bytes c.args.presence.now _ _ _ _ c.args.depth (full_sized _ e) (omega (arith, c.if-depth-eq256.false, c.requires.1))
    c.leaf.ensures c.climb-own.ensures c.sibling_at-sibling.ensures c.crossing.ensures)
