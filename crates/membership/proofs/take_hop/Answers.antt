-- `membership::take_hop` meets its contract: the link stands inside the component, and each answer is a case of the definition.
use mathlib.Core.Path.{◌≡◌, sym, ap, ap₂, ◌∙◌}
use mathlib.Core.Bool.{Bool, true, false}
use Prim.Native.Nat.{ℕ, suc, ◌+◌, ◌*◌, ◌≤◌, ◌<◌}
use native.Mathlib.Numerals.{add-one}
use native.Mathlib.Omega.{arith}
use lib.ListN.{length}
use Rattle.lists.specs.Bytes.{Bytes, same}
use Rattle.hash.specs.Hash.{hash_of}
use Rattle.hash.specs.declared.Digest.{Digest}
use Rattle.path.specs.declared.Position.{Position}
use Rattle.rules.specs.Numbers.{v1}
use Rattle.rules.specs.Messages.{element_msg, size, row, part}
use Rattle.rules.proofs.Hops.{hop_links}
use Rattle.membership.specs.declared.Walk.{Walk}
use Rattle.membership.specs.declared.Hopped.{Hopped}
use Rattle.membership.specs.declared.Hop.TheVariants.{Good, Link}
use Rattle.messages.specs.Parts.{part_length, size_short}
use Rattle.membership.specs.Hopping.{level_here, to_here, link_holds, hop_of, hop_good, hop_bad}
use Rattle.membership.proofs.take_hop.Goals as goal
use Rattle.membership.proofs.take_hop.Goals.{After-component_at-component}

-- the hop that the code found, and the component where it ends
record Found (p : Bytes) (n : ℕ) (w : Walk) (l to : ℕ) (x : Bytes) : Type 0 where
  level : l ≡ level_here p n w
  reached : to ≡ to_here p n w
  here : x ≡ part v1 p w.next to
  linked : 32 * (l + 1) + 32 ≤ length x
  sized : length x ≡ size v1 to

found : (p : Bytes) (n : ℕ) (w : Walk) (l to : ℕ) (x : Bytes) → w.at.0 < n → w.next + size v1 (to_here p n w) ≤ length p
    → l ≡ level_here p n w → to ≡ to_here p n w → x ≡ part v1 p w.next to → Found p n w l to x
found p n w l to x h fits el et ex =
    let s : size v1 to ≡ size v1 (to_here p n w) = ap (size v1) et in
    let len : length x ≡ size v1 to = ap length ex ∙ part_length p w.next to (omega arith) in
    let links = hop_links w.at.0 n h in
    record { level = el; reached = et; here = ex; linked = omega arith; sized = len }

module _ (p : Bytes) (n : ℕ) (w : Walk) (l : ℕ) (to : Position) (x : Bytes) (f : Found p n w l to.0 x) (b : Bool)
    (eb : b ≡ same (row v1 x (l + 1)) w.digest.bytes) where
  tested : b ≡ link_holds p n w
  tested =
      eb
      ∙ ap₂ (λ (c : Bytes) (r : ℕ). same (row v1 c r) w.digest.bytes) (f.here ∙ ap (part v1 p w.next) f.reached) (add-one l ∙ ap suc f.level)

  differs : (k : ℕ) → k ≡ l → b ≡ false → record { verdict = Link to.0 k; state = w } ≡ hop_of p n w
  differs k ek e = ap₂ (λ (j m : ℕ). record { verdict = Link j m; state = w }) f.reached (ek ∙ f.level) ∙ sym (hop_bad p n w (sym tested ∙ e))

  made : ℕ → Bytes → ℕ → Hopped
  made j d next = record { verdict = Good; state = record { at = record { 0 = j }; digest = record { bytes = d }; next = next } }

  agrees : (d : Digest) → d.bytes ≡ hash_of (element_msg to.0 x) → b ≡ true
      → record { verdict = Good; state = record { at = to; digest = d; next = w.next + length x } } ≡ hop_of p n w
  unfolding made
  agrees d ed e =
      ap₂ (λ (t : Bytes) (k : ℕ). made to.0 t (w.next + k)) (ed ∙ ap (λ (c : Bytes). hash_of (element_msg to.0 c)) f.here) f.sized
      ∙ ap (λ (j : ℕ). made j (hash_of (element_msg j (part v1 p w.next j))) (w.next + size v1 j)) f.reached
      ∙ sym (hop_good p n w (sym tested ∙ e))

there : (c : After-component_at-component) →
    let a = c.args in
    let r = c.hop-r.result in
    Found a.proof.now a.n.0 a.w r.level r.to.0 c.component_at-component.result.now
there c =
    let a = c.args in
    let h = c.hop-r.ensures in
    found a.proof.now a.n.0 a.w _ _ _ (omega arith) (omega arith) h.0 h.1 c.component_at-component.ensures

pub row_is-requires : goal.row_is-requires
row_is-requires c = omega (arith, (there (goal.at.row_is-requires c).After-component_at-component).linked)

pub returns-then-not-row_is : goal.returns-then-not-row_is
returns-then-not-row_is c =
    differs _ _ _ _ _ _ (there (goal.at.returns-then-not-row_is c).After-component_at-component) _ c.row_is.ensures _ c.from.ensures c.if-not-row_is.true

pub element_digest-requires : goal.element_digest-requires
element_digest-requires c = omega (arith, (there (goal.at.element_digest-requires c).After-component_at-component).sized, size_short c.hop-r.result.to.0)

pub returns : goal.returns
returns c =
    agrees _ _ _ _ _ _ (there (goal.at.returns c).After-component_at-component) _ c.row_is.ensures _ c.element_digest.ensures c.if-not-row_is.false
