-- `basis::held_at` meets its contract, by its tests: what is read is put together as the rule says.
use mathlib.Core.Path.{◌≡◌, sym, ap, ◌∙◌}
use Prim.Native.Nat.{ℕ, ◌≤◌}
use lib.ListN.{length}
use native.Mathlib.Nat.{le_trans}
use native.Mathlib.Omega.{arith}
use Rattle.std.proofs.lemmas.Bool.Decides.{nat_tests}
use Rattle.std.proofs.lemmas.Result.{err_from_is_err_and}
use Rattle.hash.specs.Hash.{hash_of}
use Rattle.rules.specs.Numbers.{v1, limit}
use Rattle.rules.specs.Refusals.{done}
use Rattle.rules.specs.Held.{held_of}
use Rattle.rules.specs.Store.{place, log_of, t_of}
use Rattle.rules.specs.Calls.{held_found}
use Rattle.rules.proofs.Places.{place_mono}
use Rattle.rules.proofs.Answers.{held_damaged, held_above, held_done}
use Rattle.held.specs.Holding.{holds}
use Rattle.store.proofs.Laws.{InOrder, in_order, broken}
use Rattle.basis.proofs.held_at.Goals as goal
use Rattle.basis.proofs.held_at.Goals.{In_ok-count}

counted : (c : In_ok-count) → InOrder c.args.store.now c.in_ok-count.count
counted c = in_order c.args.store.now c.count.result c.in_ok-count.count c.count.ensures c.in_ok-count.was

-- what is read of a length up to the count lies within the store
within : (c : In_ok-count) (j : ℕ) → j ≤ c.in_ok-count.count.0 → (place v1 j ≤ length c.args.store.now) × (j ≤ limit v1)
within c j h = let k = counted c in (le_trans (place_mono v1 j _ h) k.fits, le_trans h k.few)

pub returns-in_err-count : goal.returns-in_err-count
returns-in_err-count c =
    let a = c.args in
    let p = err_from_is_err_and c.from_residual.result c.from_residual.ensures.1 in
    rw (p.1, p.2) (sym (held_damaged hash_of v1 a.store.now a.at.0 (broken a.store.now c.count.result _ c.count.ensures c.in_err-count.was)))

pub returns-then-lt : goal.returns-then-lt
returns-then-lt c =
    let a = c.args in
    let k = counted (goal.at.returns-then-lt c).In_ok-count in
    sym (held_above hash_of v1 a.store.now a.at.0 k.sound (grind (arith, nat_tests, k.counted)))

pub log_of-requires : goal.log_of-requires
log_of-requires c = (counted (goal.at.log_of-requires c).In_ok-count).long

pub stored_digest-requires : goal.stored_digest-requires
stored_digest-requires c = within (goal.at.stored_digest-requires c).In_ok-count _ (grind (arith, nat_tests))

pub basis_rows-requires : goal.basis_rows-requires
basis_rows-requires c = within (goal.at.basis_rows-requires c).In_ok-count _ (grind (arith, nat_tests))

pub returns : goal.returns
returns c =
    let a = c.args in
    let k = counted (goal.at.returns c).In_ok-count in
    let e : holds (record { log = c.log_of.result; count = a.at; digest = c.stored_digest.result; rows = c.basis_rows.result }) ≡ held_of v1 (log_of a.store.now) (t_of hash_of v1 a.store.now) a.at.0 =
    cc (c.log_of.ensures, c.stored_digest.ensures, c.basis_rows.ensures) in
    ap (held_found done) e ∙ sym (held_done hash_of v1 a.store.now a.at.0 k.sound (grind (arith, nat_tests, k.counted)))
