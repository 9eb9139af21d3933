-- `dispute::show::show_elements` meets its contract: head and component are the message, and it fits.
use mathlib.Core.Path.{◌≡◌, ap, ap₂, ◌∙◌}
use mathlib.Core.List.{◌++◌}
use mathlib.Core.Option.{some}
use Prim.Native.Nat.{ℕ, ◌+◌, ◌≤◌}
use native.Mathlib.Omega.{arith}
use lib.ListN.{length, drop, length-take}
use Rattle.lists.specs.Bytes.{Bytes}
use Rattle.rules.specs.Numbers.{v1}
use Rattle.rules.specs.Messages.{element_head, element_msg, size, part}
use Rattle.rules.specs.Dispute.{messages, message_room}
use Rattle.rules.specs.Calls.{Disputed, showing}
use Rattle.messages.specs.Parts.{size_short}
use Rattle.dispute.proofs.show.show_elements.Goals as goal

fits : (p : Bytes) (o j : ℕ) (head x b : Bytes) → head ≡ element_head j → x ≡ part v1 p o j → message_room ≤ length b → length head + length x ≤ length b
fits p o j head x b eh ex room =
    let h : length head ≡ 9 = ap length eh in
    let l : length x ≡ _ = ap length ex ∙ length-take (size v1 j) (drop o p) in
    omega (arith, size_short j)

shown : (p q : Bytes) (o j : ℕ) (head x y b1 b2 : Bytes) (r : Disputed) → head ≡ element_head j → x ≡ part v1 p o j → y ≡ part v1 q o j
    → r ≡ showing (some (head ++ x, head ++ y)) b1 b2 → r ≡ showing (messages v1 p q (some (j, o))) b1 b2
unfolding element_msg
shown p q o j head x y b1 b2 r eh ex ey er =
    er
    ∙ ap₂ (λ (u v : Bytes). showing (some (head ++ u, head ++ v)) b1 b2) ex ey
    ∙ ap (λ (h : Bytes). showing (some (h ++ part v1 p o j, h ++ part v1 q o j)) b1 b2) eh

pub show_both-requires : goal.show_both-requires
show_both-requires c =
    let a = c.args in
    let h = c.element_head.ensures in (
      fits a.proof1.now a.spot.offset a.spot.element.0 _ _ a.out1.now h c.component_at-one.ensures c.requires.message_room_in_bounds.0,
      fits a.proof2.now a.spot.offset a.spot.element.0 _ _ a.out2.now h c.component_at-two.ensures c.requires.message_room_in_bounds.1,
    )

pub returns : goal.returns
returns c =
    let a = c.args in
    shown a.proof1.now a.proof2.now a.spot.offset a.spot.element.0 _ _ _ a.out1.now a.out2.now _ c.element_head.ensures c.component_at-one.ensures c.component_at-two.ensures c.show_both.ensures
