-- Where two proofs differ, as the rules have it; and that the part handed back stands inside the second proof.
use Rattle.std.specs.Prelude.{◌≡◌, refl, Bool, true, false, ◌&&◌, cond, ℕ, ◌+◌, ◌≤◌, ◌<◌, eqb, length, take, drop, IfSome, Option as Found, Some, None}
use Rattle.std.proofs.Math.Option.{Option, none, some}
use Rattle.std.proofs.Common.{arith, ap, ap₂, eqb-true}
use Rattle.lists.specs.Bytes.{Bytes}
use Rattle.rules.specs.Numbers.{v1}
use Rattle.rules.specs.Paths.{path}
use Rattle.rules.specs.Messages.{total}
use Rattle.rules.specs.Checking.{between}
use Rattle.rules.specs.Dispute.{Part as Place, nearest, part_of, differing}
use Rattle.rules.proofs.Spots.{nearest_inside, differing_is}
use Rattle.place.specs.declared.Spot.{Spot}
use Rattle.place.specs.declared.Part.{Part}

abbrev pub spot_of : Found Spot → Option (ℕ × ℕ)
spot_of None = none
spot_of (Some s) = some (s.element.0, s.offset)

-- no part is that of no bytes
abbrev pub part_is : Found Part → Place
part_is None = record { from = 0; size = 0 }
part_is (Some x) = record { from = x.from; size = x.size }

-- Two answers that both clauses of `place::differing_at` allow are the same: a part of no bytes, which would tell as none does, is no answer.
pub part_one : (x y : Found Part) → IfSome x (λ p. 0 < p.size) → IfSome y (λ p. 0 < p.size) → part_is x ≡ part_is y → x ≡ y
part_one None None hx hy e = refl
part_one None (Some y) hx hy e = let s : ◌≡◌ {A = ℕ} 0 y.size = ap (λ (p : Place). p.size) e in absurd (omega (arith, s, hy))
part_one (Some x) None hx hy e = let s : ◌≡◌ {A = ℕ} x.size 0 = ap (λ (p : Place). p.size) e in absurd (omega (arith, s, hx))
part_one (Some x) (Some y) hx hy e =
    ap₂ {A = ℕ} {B = ℕ} {C = Found Part} (λ from size. Some (record { from = from; size = size })) (ap (λ (p : Place). p.from) e) (ap (λ (p : Place). p.size) e)

-- the bytes of a part
abbrev pub cut : Place → Bytes → Bytes
cut x b = take x.size (drop x.from b)

-- The differing part stands inside the second proof.
pub differing_inside : (i n : ℕ) (p q : Bytes) → let x = differing v1 i n p q in x.from + x.size ≤ length q
differing_inside i n p q =
    rw (differing_is v1 p q i n refl refl refl refl)
    (go (between v1 i n) (eqb (length p) (total v1 (path i n))) (eqb (length q) (total v1 (path i n))) (nearest v1 (path i n) p q 0) refl refl)
  where
    go : (b4 bp bq : Bool) (s : Option (ℕ × ℕ)) → eqb (length q) (total v1 (path i n)) ≡ bq → nearest v1 (path i n) p q 0 ≡ s →
        let x = cond (b4 && (bp && bq)) (part_of v1 s) (part_of v1 none) in x.from + x.size ≤ length q
    go false bp bq s e f = omega arith
    go true false bq s e f = omega arith
    go true true false s e f = omega arith
    go true true true none e f = omega arith
    go true true true (some x) e f =
        let l = eqb-true (length q) (total v1 (path i n)) e in
        let h = nearest_inside v1 p q (path i n) 0 x.0 x.1 f in
        omega arith
