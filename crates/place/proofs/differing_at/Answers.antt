-- `place::differing_at` meets its contract: each return fixes the tests of the definition up to it.
use mathlib.Core.Path.{◌≡◌, refl, sym, ap, ◌∙◌}
use mathlib.Core.Bool.{Bool, true, ◌&&◌, cond}
use mathlib.Core.Option.{Option, none}
use Prim.Native.Nat.{ℕ}
use lib.Dec.{eqb}
use lib.ListN.{length}
use borrow.Author.Tests.{eq-eqb, ne_eqb}
use Rattle.rules.specs.Numbers.{v1}
use Rattle.rules.specs.Paths.{path}
use Rattle.rules.specs.Messages.{total}
use Rattle.rules.specs.Checking.{between}
use Rattle.rules.specs.Dispute.{nearest, part_of, differing}
use Rattle.rules.proofs.Spots.{differing_is}
use Rattle.place.specs.Places.{spot_of, part_is}
use Rattle.place.proofs.differing_at.Goals as goal
use Rattle.place.proofs.differing_at.Goals.{After-find, After-membership_len-len, Else-not-asked, Start, then-first-len-via-then-first-len, then-first-len-via-else-first-len+then-second-len}

-- ---- what each passed test says, at the place behind it

asked : (c : Else-not-asked) → let a = c.args in between v1 a.i.0 a.n.0 ≡ true
asked c = sym c.asked.ensures ∙ c.if-not-asked.false

counted : (c : After-membership_len-len) → let a = c.args in c.membership_len-len.result ≡ total v1 (path a.i.0 a.n.0)
counted c = rw (asked (goal.at.After-membership_len-len c).Else-not-asked) at c.membership_len-len.ensures

first_sized : (c : After-find) → let a = c.args in length a.first.now ≡ total v1 (path a.i.0 a.n.0)
first_sized c = c.if-first-len.false ∙ counted (goal.at.After-find c).After-membership_len-len

second_sized : (c : After-find) → let a = c.args in length a.second.now ≡ total v1 (path a.i.0 a.n.0)
second_sized c = c.if-second-len.false ∙ counted (goal.at.After-find c).After-membership_len-len

-- the definition at this call's arguments, by its tests
here : (c : Start) {b4 bp bq : Bool} {x s : Option (ℕ × ℕ)} →
    let a = c.args in
    let p = a.first.now in
    let q = a.second.now in
    let t = total v1 (path a.i.0 a.n.0) in
    between v1 a.i.0 a.n.0 ≡ b4 → eqb (length p) t ≡ bp → eqb (length q) t ≡ bq → x ≡ nearest v1 (path a.i.0 a.n.0) p q 0 → x ≡ s
    → cond (b4 && (bp && bq)) (part_of v1 s) (part_of v1 none) ≡ differing v1 a.i.0 a.n.0 p q
here c e4 ep eq ex es = let a = c.args in sym (differing_is v1 a.first.now a.second.now a.i.0 a.n.0 e4 ep eq (sym ex ∙ es))

-- the same, once all tests passed
there : (c : After-find) {s : Option (ℕ × ℕ)} → spot_of c.find.result ≡ s →
    let a = c.args in
    part_of v1 s ≡ differing v1 a.i.0 a.n.0 a.first.now a.second.now
there c e =
    here (goal.at.After-find c).Start (asked (goal.at.After-find c).Else-not-asked) (eq-eqb _ _ (first_sized c)) (eq-eqb _ _ (second_sized c)) c.find.ensures e

pub returns-then-not-asked-clause-part : goal.returns-then-not-asked-clause-part
returns-then-not-asked-clause-part c = here (goal.at.returns-then-not-asked-clause-part c).Start (sym c.asked.ensures ∙ c.if-not-asked.true) refl refl refl refl

pub returns-then-first-len-clause-part : goal.returns-then-first-len-clause-part
returns-then-first-len-clause-part c =
    let k = counted (goal.at.returns-then-first-len-clause-part c).After-membership_len-len in
    let known = asked (goal.at.returns-then-first-len-clause-part c).Else-not-asked in
    let start = (goal.at.returns-then-first-len-clause-part c).Start in
    elim c.then-first-len.branch [
      | then-first-len-via-then-first-len w ↦ here start known (ne_eqb _ _ (λ x. w.if-first-len.true (x ∙ sym k))) refl refl refl
      | then-first-len-via-else-first-len+then-second-len w ↦
          here start known (eq-eqb _ _ (w.if-first-len.false ∙ k)) (ne_eqb _ _ (λ x. w.if-second-len.true (x ∙ sym k))) refl refl
    ]

pub returns-in_err-spot-clause-part : goal.returns-in_err-spot-clause-part
returns-in_err-spot-clause-part c =
    ap part_is c.from_residual.ensures ∙ there (goal.at.returns-in_err-spot-clause-part c).After-find (ap spot_of c.in_err-spot.was)

pub returns-clause-part : goal.returns-clause-part
returns-clause-part c =
    let at = c.in_ok-spot in
    ap (λ (k : ℕ). record { from = at.spot.offset; size = k }) c.component_len.ensures ∙ there (goal.at.returns-clause-part c).After-find (ap spot_of at.was)
