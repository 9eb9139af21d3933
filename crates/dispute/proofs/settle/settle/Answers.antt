-- `dispute::settle::settle` meets its contract: each return is a case of what the rules name.
use mathlib.Core.Path.{◌≡◌, refl, sym, ap, ◌∙◌}
use mathlib.Core.Option.{Option, none, some}
use Prim.Native.Nat.{ℕ}
use Rattle.lists.specs.Bytes.{Bytes, same}
use Rattle.rules.specs.Numbers.{v1}
use Rattle.rules.specs.Paths.{path}
use Rattle.rules.specs.Messages.{entry_msg}
use Rattle.rules.specs.Dispute.{unlike, nearest, messages, dispute}
use Rattle.rules.specs.Calls.{Disputed, showing}
use Rattle.rules.proofs.Spots.{dispute_is}
use Rattle.place.specs.Places.{spot_of}
use Rattle.place.proofs.Spotting.{inside}
use Rattle.dispute.proofs.settle.settle.Goals as goal
use Rattle.dispute.proofs.settle.settle.Goals.{In-Some}

module _ (e1 p1 e2 p2 : Bytes) (i n : ℕ) (b1 b2 : Bytes) (o : Disputed) where
  entries : {x : Option (ℕ × ℕ)} → x ≡ nearest v1 (path i n) p1 p2 0 → x ≡ none → o ≡ showing (unlike (same e1 e2) (entry_msg e1, entry_msg e2)) b1 b2 → o ≡ showing (dispute v1 i n e1 e2 p1 p2) b1 b2
  entries ex f e = e ∙ ap (λ (z : Option (Bytes × Bytes)). showing z b1 b2) (sym (dispute_is v1 p1 p2 i n e1 e2 (sym ex ∙ f) refl))

  elements : {j at : ℕ} → nearest v1 (path i n) p1 p2 0 ≡ some (j, at) → o ≡ showing (messages v1 p1 p2 (some (j, at))) b1 b2 → o ≡ showing (dispute v1 i n e1 e2 p1 p2) b1 b2
  elements f e = e ∙ ap (λ (z : Option (Bytes × Bytes)). showing z b1 b2) (sym (dispute_is v1 p1 p2 i n e1 e2 {b = same e1 e2} f refl))

-- where the two differ
found : (c : In-Some) →
    let a = c.args in
    let g = c.in-Some.spot in
    nearest v1 (path a.i.0 a.n.0) a.proof1.now a.proof2.now 0 ≡ some (g.element.0, g.offset)
found c = sym c.find.ensures ∙ ap spot_of c.in-Some.is

pub returns-in_default : goal.returns-in_default
returns-in_default c =
    let a = c.args in
    entries a.entry1.now a.proof1.now a.entry2.now a.proof2.now a.i.0 a.n.0 a.out1.now a.out2.now _
    c.find.ensures (ap spot_of c.in_default.is) c.show_entries.ensures

pub show_elements-requires-clause-spot_in_bounds : goal.show_elements-requires-clause-spot_in_bounds
show_elements-requires-clause-spot_in_bounds c =
    let r = c.requires in
    inside c.args.proof1.now c.args.proof2.now _ _ _ _ r.proof1_sized r.proof2_sized (found (goal.at.show_elements-requires-clause-spot_in_bounds c).In-Some)

pub returns : goal.returns
returns c =
    let a = c.args in
    elements a.entry1.now a.proof1.now a.entry2.now a.proof2.now a.i.0 a.n.0 a.out1.now a.out2.now _
    (found (goal.at.returns c).In-Some) c.show_elements.ensures
