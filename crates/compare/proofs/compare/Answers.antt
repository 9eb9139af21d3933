-- `compare::compare` meets its contract: two stores that could be counted, of one log, are told by the first difference of the elements that both have, and
-- then by their counts.
use mathlib.Core.Path.{◌≡◌, refl, sym, ap, ap₂, ◌∙◌}
use mathlib.Core.Logic.{◌≢◌}
use mathlib.Core.Bool.{false}
use Prim.Native.Nat.{ℕ, min, ◌+◌, ◌≤◌, ◌<◌}
use native.Mathlib.Nat.{le_trans}
use native.Mathlib.Omega.{arith}
use Rattle.rules.proofs.Places.{place_mono}
use lib.Dec.{leb}
use borrow.Author.Tests.{lt-ltb, le-ltb, le-leb, lt-leb, eq-eqb, ne_eqb}
use Rattle.std.proofs.lemmas.Bool.Decides.{nat_tests}
use Rattle.std.specs.Ordering.{ord_min, nat_cmp}
use Rattle.std.proofs.Common.{Less, Greater, Equal}
use Rattle.std.proofs.lemmas.Result.{err_from_is_err_and}
use Rattle.lists.specs.Bytes.{Bytes}
use Rattle.rules.specs.Numbers.{v1}
use Rattle.rules.specs.Store.{log_of, count_of}
use Rattle.copies.specs.Comparing as rule
use Rattle.copies.specs.Comparing.{Finding, equal, first_shorter, second_shorter, differ, first_not, same_element, element_at, byte_at, finding}
use Rattle.copies.specs.Calls.{found, compare_call}
use Rattle.copies.proofs.Answers.{compare_is, finding_is}
use Rattle.path.specs.declared.Length.{Length}
use Rattle.store.proofs.Laws.{InOrder, in_order, broken}
use Rattle.compare.proofs.compare.Goals as goal
use Rattle.compare.proofs.compare.Goals.{In_ok-n, In_ok-m, After-first_difference-difference}

-- the lesser of two lengths is that of their numbers
lesser : (n m r : Length) → r ≡ ord_min (λ (x y : Length). nat_cmp x.0 y.0) n m → r.0 ≡ min n.0 m.0
lesser n m r e = grind (arith, nat_tests)

-- how two lengths compare
less : (n m : ℕ) → Less ≡ nat_cmp n m → n < m
less n m e = grind (arith, nat_tests)

greater : (n m : ℕ) → Greater ≡ nat_cmp n m → m < n
greater n m e = grind (arith, nat_tests)

level : (n m : ℕ) → Equal ≡ nat_cmp n m → n ≡ m
level n m e = grind (arith, nat_tests)

-- the first of so many elements that differs
abbrev place : Bytes → Bytes → ℕ → ℕ
place s t common = first_not (same_element v1 s t) 1 common

-- what the rule answers of two stores in order
module _ (s t : Bytes) (n m : Length) (k : InOrder s n) (l : InOrder t m) where
  -- of one log, by the place at which a search of the elements that both have has ended
  record Ruled (common : ℕ) : Type 0 where
    differs : (j b : ℕ) → place s t common ≤ common → j ≡ place s t common → b ≡ byte_at v1 s t j → found (differ j b) ≡ compare_call v1 s t
    shorter : place s t common ≡ common + 1 → n.0 < m.0 → found first_shorter ≡ compare_call v1 s t
    longer : place s t common ≡ common + 1 → m.0 < n.0 → found second_shorter ≡ compare_call v1 s t
    level : place s t common ≡ common + 1 → n.0 ≡ m.0 → found equal ≡ compare_call v1 s t

  ruled : log_of s ≡ log_of t → (common : ℕ) → common ≡ min n.0 m.0 → Ruled common
  ruled one common least =
      let answer : (f : Finding) → finding v1 s t ≡ f → found f ≡ compare_call v1 s t = λ f e. ap found (sym e) ∙ sym (compare_is v1 s t k.sound l.sound (eq-eqb (log_of s) (log_of t) one)) in
      let both : common ≡ rule.common v1 s t = least ∙ ap₂ min (sym k.counted) (sym l.counted) in
      let first : place s t common ≡ element_at v1 s t = ap (place s t) both in
      let past : place s t common ≡ common + 1 → leb (element_at v1 s t) (rule.common v1 s t) ≡ false = λ h. lt-leb (element_at v1 s t) (rule.common v1 s t) (omega (arith, both, first)) in record {
        differs = λ j b h e f.
            ap found (ap₂ differ (e ∙ first) (f ∙ ap (λ (i : ℕ). byte_at v1 s t i) (e ∙ first)))
            ∙ answer _ (finding_is v1 s t (le-leb (element_at v1 s t) (rule.common v1 s t) (omega (arith, both, first))) refl refl);
        shorter = λ h g. answer _ (finding_is v1 s t (past h) (lt-ltb (count_of v1 s) (count_of v1 t) (omega (arith, k.counted, l.counted))) refl);
        longer = λ h g.
            answer _ (finding_is v1 s t (past h) (le-ltb (count_of v1 s) (count_of v1 t) (omega (arith, k.counted, l.counted)))
            (lt-ltb (count_of v1 t) (count_of v1 s) (omega (arith, k.counted, l.counted))));
        level = λ h g.
            answer _ (finding_is v1 s t (past h) (le-ltb (count_of v1 s) (count_of v1 t) (omega (arith, k.counted, l.counted)))
            (le-ltb (count_of v1 t) (count_of v1 s) (omega (arith, k.counted, l.counted))));
      }

-- the two counts that were found are the rule's
first_counted : (c : In_ok-n) → InOrder c.args.first.now c.in_ok-n.n
first_counted c = in_order c.args.first.now c.count.result c.in_ok-n.n c.count.ensures c.in_ok-n.was

second_counted : (c : In_ok-m) → InOrder c.args.second.now c.in_ok-m.m
second_counted c = in_order c.args.second.now c.count-2.result c.in_ok-m.m c.count-2.ensures c.in_ok-m.was

pub returns-in_err-n : goal.returns-in_err-n
returns-in_err-n c =
    let s = c.args.first.now in
    let p = err_from_is_err_and c.from_residual.result c.from_residual.ensures.1 in
    rw (p.1, p.2) (sym (compare_is v1 s c.args.second.now (broken s c.count.result _ c.count.ensures c.in_err-n.was) refl refl))

pub returns-in_err-m : goal.returns-in_err-m
returns-in_err-m c =
    let s = c.args.first.now in
    let t = c.args.second.now in
    let p = err_from_is_err_and c.from_residual-in_err-m.result c.from_residual-in_err-m.ensures.1 in
    let k = first_counted (goal.at.returns-in_err-m c).In_ok-n in
    rw (p.1, p.2) (sym (compare_is v1 s t k.sound (broken t c.count-2.result _ c.count-2.ensures c.in_err-m.was) refl))

pub log_of-requires : goal.log_of-requires
log_of-requires c = (first_counted (goal.at.log_of-requires c).In_ok-n).long

pub log_of-requires-2 : goal.log_of-requires-2
log_of-requires-2 c = (second_counted (goal.at.log_of-requires-2 c).In_ok-m).long

pub returns-then-log_of : goal.returns-then-log_of
returns-then-log_of c =
    let s = c.args.first.now in
    let t = c.args.second.now in
    let other : log_of s ≢ log_of t = λ e. c.if-log_of.true (c.log_of.ensures ∙ e ∙ sym c.log_of-2.ensures) in
    let at = goal.at.returns-then-log_of c in
    sym (compare_is v1 s t (first_counted at.In_ok-n).sound (second_counted at.In_ok-m).sound (ne_eqb (log_of s) (log_of t) other))

pub first_difference-difference-requires : goal.first_difference-difference-requires
first_difference-difference-requires c =
    let at = goal.at.first_difference-difference-requires c in
    let k = first_counted at.In_ok-n in
    let l = second_counted at.In_ok-m in
    let least = lesser c.in_ok-n.n c.in_ok-m.m c.min-common.result c.min-common.ensures in
    (le_trans (place_mono v1 _ c.in_ok-n.n.0 (omega arith)) k.fits, le_trans (place_mono v1 _ c.in_ok-m.m.0 (omega arith)) l.fits, omega (arith, k.few))

-- where the search has ended
abbrev Searched : After-first_difference-difference → Type 0
Searched c =
    let at = goal.at.After-first_difference-difference c in
    Ruled c.args.first.now c.args.second.now c.in_ok-n.n c.in_ok-m.m (first_counted at.In_ok-n) (second_counted at.In_ok-m) c.min-common.result.0

searched : (c : After-first_difference-difference) → Searched c
searched c =
    let at = goal.at.After-first_difference-difference c in
    ruled _ _ _ _ (first_counted at.In_ok-n) (second_counted at.In_ok-m) (sym c.log_of.ensures ∙ c.if-log_of.false ∙ c.log_of-2.ensures) _ (lesser _ _ _ c.min-common.ensures)

pub returns-in-Some : goal.returns-in-Some
returns-in-Some c = let e = c.in-Some.ensures in (searched (goal.at.returns-in-Some c).After-first_difference-difference).differs _ _ e.element_value.0 e.element_value.1 e.byte_value

pub returns-in-Less : goal.returns-in-Less
returns-in-Less c = (searched (goal.at.returns-in-Less c).After-first_difference-difference).shorter c.in_default.ensures.element_value (less _ _ c.in-Less.ensures)

pub returns-in-Greater : goal.returns-in-Greater
returns-in-Greater c = (searched (goal.at.returns-in-Greater c).After-first_difference-difference).longer c.in_default.ensures.element_value (greater _ _ c.in-Greater.ensures)

pub returns-in-Equal : goal.returns-in-Equal
returns-in-Equal c = (searched (goal.at.returns-in-Equal c).After-first_difference-difference).level c.in_default.ensures.element_value (level _ _ c.in-Equal.ensures)
