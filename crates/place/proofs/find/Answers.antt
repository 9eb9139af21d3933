-- `place::find` meets its contract: what differs further on goes before what was found so far.
use mathlib.Core.Path.{◌≡◌, sym, ap, ap₂, ◌∙◌}
use mathlib.Core.Option.{Option}
use Prim.Native.Nat.{ℕ, ◌+◌, ◌^◌, ◌≤◌, ◌<◌}
use native.Mathlib.Nat.{zero-add}
use native.Mathlib.Omega.{arith}
use lib.Pow.{pow_pos}
use lib.ListN.{length}
use Rattle.lists.specs.Bytes.{Bytes}
use Rattle.rules.specs.Numbers.{v1}
use Rattle.rules.specs.Paths.{level, path, path_after}
use Rattle.rules.specs.Messages.{size, total}
use Rattle.rules.specs.Dispute.{or_else, nearest, differs_at}
use Rattle.rules.proofs.Hops.{level_hop}
use Rattle.rules.proofs.Bounds.{total_first, total_after_step}
use Rattle.rules.proofs.Spots.{nearest_start, nearest_step, nearest_end}
use Rattle.place.specs.Places.{spot_of}
use Rattle.place.proofs.Spotting.{either_spot}
use Rattle.place.proofs.find.Invariants.{Seen}
use Rattle.place.proofs.find.Goals as goal
use Rattle.place.proofs.find.Goals.{After-component_len-at-in-loop-j}

module _ (n : ℕ) (p q : Bytes) (i : ℕ) where
  begins : (s : Option (ℕ × ℕ)) (at : ℕ) → i ≤ n → length p ≡ total v1 (path i n) → length q ≡ total v1 (path i n)
      → at ≡ size v1 i → s ≡ differs_at v1 p q i 0 → Seen n p q i s at i
  begins s at h lp lq ea es =
      let f = total_first v1 i n in
      record {
        high = h;
        first_left = omega arith;
        second_left = omega arith;
        keeps =
            nearest_start v1 p q i n
            ∙ ap₂ (λ (x : ℕ) (y : Option (ℕ × ℕ)). or_else (nearest v1 (path_after i n) p q x) y) (zero-add (size v1 i) ∙ sym ea) (sym es);
      }

  module _ (s : Option (ℕ × ℕ)) (at j : ℕ) (w : Seen n p q i s at j) (h : j < n) (to : ℕ) (et : to ≡ j + 2 ^ level j n) where
    behind : total v1 (path_after j n) ≡ size v1 to + total v1 (path_after to n)
    behind = rw et (total_after_step v1 j n h ∙ total_first v1 (j + 2 ^ level j n) n)

    -- the next components are there
    room : (at + size v1 to ≤ length p) × (at + size v1 to ≤ length q)
    room = (omega (arith, behind, w.first_left), omega (arith, behind, w.second_left))

    goes_on : (more : ℕ) {x s' : Option (ℕ × ℕ)} → more ≡ size v1 to → x ≡ differs_at v1 p q to at → s' ≡ or_else x s → Seen n p q i s' (at + more) to × (j < to)
    goes_on more em ex es =
        let pos = pow_pos (level j n) in
        let reach = (level_hop j n h).reaches in
        let step : or_else (nearest v1 (path_after j n) p q at) s ≡ or_else (nearest v1 (path_after to n) p q (at + size v1 to)) (or_else (differs_at v1 p q to at) s) =
        rw et (nearest_step v1 p q j n at s h) in (
          record {
            high = omega arith;
            first_left = omega (arith, behind, w.first_left);
            second_left = omega (arith, behind, w.second_left);
            keeps = w.keeps ∙ step ∙ ap₂ (λ (x : ℕ) (y : Option (ℕ × ℕ)). or_else (nearest v1 (path_after to n) p q (at + x)) y) (sym em) (sym (es ∙ ap (λ (y : Option (ℕ × ℕ)). or_else y s) ex));
          },
          omega arith,
        )

  ends : (s : Option (ℕ × ℕ)) (at j : ℕ) → Seen n p q i s at j → n ≤ j → s ≡ nearest v1 (path i n) p q 0
  ends s at j w h = sym (w.keeps ∙ nearest_end v1 p q j n at s (omega (arith, w.high)))

on : (c : After-component_len-at-in-loop-j) →
    let a = c.args in
    let l = c.loop-j in
    let to = c.hop.result.to.0 in
    Seen a.n.0 a.first.now a.second.now a.i.0 (spot_of c.or-spot.result) (l.at + c.component_len-at-in-loop-j.result) to × (l.j.0 < to)
on c =
    let l = c.loop-j in
    goes_on _ _ _ _ _ _ _ l.invariant c.loop-j-test.true _ c.hop.ensures.1 _ c.component_len-at-in-loop-j.ensures c.look.ensures (ap spot_of c.or-spot.ensures ∙ either_spot _ _)

pub look-spot-requires : goal.look-spot-requires
look-spot-requires c = let a = c.args in let f = total_first v1 a.i.0 a.n.0 in (omega arith, omega arith)

pub loop-j-init : goal.loop-j-init
loop-j-init c =
    let p = c.requires in
    begins _ _ _ _ _ _ p.0 p.1 p.2 c.component_len-at.ensures c.look-spot.ensures

pub look-requires : goal.look-requires
look-requires c =
    let l = c.loop-j in
    room _ _ _ _ _ l.at _ l.invariant c.loop-j-test.true _ c.hop.ensures.1

pub overflow_add-at : goal.overflow_add-at
overflow_add-at c = omega (arith, (on (goal.at.overflow_add-at c).After-component_len-at-in-loop-j).0.first_left)

pub loop-j-smaller : goal.loop-j-smaller
loop-j-smaller c = let s = on (goal.at.loop-j-smaller c).After-component_len-at-in-loop-j in omega (arith, s.1, s.0.high)

pub loop-j-preserved : goal.loop-j-preserved
loop-j-preserved c = (on (goal.at.loop-j-preserved c).After-component_len-at-in-loop-j).0

pub returns : goal.returns
returns c = let l = c.loop-j in ends _ _ _ _ _ _ _ l.invariant c.loop-j-test.false
