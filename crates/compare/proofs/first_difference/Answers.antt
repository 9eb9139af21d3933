-- `compare::first_difference` meets its contract: the search of all elements is the search of those that are left, and so is that of the bytes of one.
use mathlib.Core.Path.{◌≡◌, refl, sym, ap, ap₂, ◌∙◌}
use mathlib.Core.Bool.{true}
use Prim.Native.Nat.{ℕ, ◌+◌, ◌-◌, ◌≤◌}
use native.Mathlib.Omega.{arith}
use lib.ListN.{length}
use Rattle.lists.specs.Bytes.{Bytes, same}
use Rattle.rules.specs.Numbers.{v1}
use Rattle.rules.specs.Store.{fields_of}
use Rattle.copies.specs.Comparing.{first_not, same_element, same_byte}
use Rattle.copies.proofs.First.{first_step, first_stop, first_end, byte_same, byte_other, string_other, string_same}
use Rattle.lists.specs.Same.{same_eq}
use Rattle.compare.proofs.first_difference.Goals as goal

-- the search of the bytes at its end: element j, of the bytes x and y, is the same in both
whole : (s t x y : Bytes) (j b : ℕ) → (x ≡ fields_of v1 s j) × (length x ≡ 64) → (y ≡ fields_of v1 t j) × (length y ≡ 64) → 64 ≤ b → b ≤ 64
    → first_not (same_byte x y) 0 64 ≡ first_not (same_byte x y) b (64 - b) → same_element v1 s t j ≡ true
whole s t x y j b f g h m left =
    let e : b ≡ 64 = omega arith in
    same_eq (fields_of v1 s j) (fields_of v1 t j) (sym f.0 ∙ string_same x y 64 f.1 g.1 (left ∙ first_end (same_byte x y) b 64 h ∙ e) ∙ g.0)

pub elements-init : goal.elements-init
elements-init c =
    let n = c.args.n.0 in
    let e : n ≡ n + 1 - 1 = omega arith in
    record { none = refl; within = omega arith; left = ap (λ (k : ℕ). first_not (same_element v1 c.args.first.now c.args.second.now) 1 k) e }

pub loop-b-init : goal.loop-b-init
loop-b-init c = record { none = c.elements.invariant.none; left = refl }

pub loop-b-preserved : goal.loop-b-preserved
loop-b-preserved c =
    let x = c.fields_of-x.result.now in
    let y = c.fields_of-y.result.now in
    let l = c.loop-b in
    record { none = l.invariant.none; left = l.invariant.left ∙ first_step (same_byte x y) l.b 64 (omega arith) (byte_same x y l.b c.if-x-b.false) }

pub elements-preserved : goal.elements-preserved
elements-preserved c =
    let s = c.args.first.now in
    let t = c.args.second.now in
    let l = c.elements in
    let b = c.loop-b in
    let same = whole s t _ _ l.j b.b c.fields_of-x.ensures c.fields_of-y.ensures (omega arith) (omega arith) b.invariant.left in
    record { none = b.invariant.none; within = omega arith; left = l.invariant.left ∙ first_step (same_element v1 s t) l.j (c.args.n.0 + 1) (omega arith) same }

pub returns : goal.returns
returns c =
    let l = c.elements in
    let e : l.j ≡ c.args.n.0 + 1 = omega arith in
    let none = l.invariant.left ∙ first_end (same_element v1 c.args.first.now c.args.second.now) l.j (c.args.n.0 + 1) (omega arith) ∙ e in
    rw l.invariant.none (record { element_value = none; byte_value = tt })

pub returns-then-x-b : goal.returns-then-x-b
returns-then-x-b c =
    let a = c.args in
    let l = c.elements in
    let f = c.fields_of-x in
    let g = c.fields_of-y in
    let found = c.loop-b in
    let other = string_other f.result.now g.result.now found.b c.if-x-b.true in
    let element = ap₂ (λ (x y : Bytes). same x y) (sym f.ensures.0) (sym g.ensures.0) ∙ other in
    let byte = found.invariant.left ∙ first_stop (same_byte f.result.now g.result.now) found.b 64 (omega arith) (byte_other f.result.now g.result.now found.b c.if-x-b.true) in
    let at = l.invariant.left ∙ first_stop (same_element v1 a.first.now a.second.now) l.j (a.n.0 + 1) (omega arith) element in
    let least = ap₂ (λ (x y : Bytes). first_not (same_byte x y) 0 64) (sym f.ensures.0) (sym g.ensures.0) ∙ byte in
    record { element_value = (omega arith, sym at); byte_value = sym least }

pub returns-2 : goal.returns-2
returns-2 c =
    let s = c.args.first.now in
    let t = c.args.second.now in
    let n = c.args.n.0 in
    let l = c.elements in
    let b = c.loop-b in
    let same = whole s t _ _ l.j b.b c.fields_of-x.ensures c.fields_of-y.ensures (omega arith) (omega arith) b.invariant.left in
    let e : l.j + 1 ≡ n + 1 = omega arith in
    let none = l.invariant.left ∙ first_step (same_element v1 s t) l.j (n + 1) (omega arith) same ∙ first_end (same_element v1 s t) (l.j + 1) (n + 1) (omega arith) ∙ e in
    rw b.invariant.none (record { element_value = none; byte_value = tt })
