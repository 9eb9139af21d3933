-- Advancement proofs made of digests that obey the rules are accepted by the state that those digests give at i, and hand back the state at n. For any
-- hash H.
use Rattle.std.specs.Prelude.{◌≡◌, ◌||◌, leb, length, drop}
use Rattle.std.proofs.Math.Path.{refl, ap, ap₂}
use Rattle.std.proofs.Common.{sym, ◌∙◌, zero-add, le_trans, lt_of_le_ones, eq-eqb, le-leb}
use Rattle.std.proofs.Math.Bool.{true, and-eq-true_iff}
use mathlib.Core.List.{List, [], ◌∷◌, ◌++◌, append_assoc}
use Prim.Native.Nat.{ℕ, zero, suc, ◌+◌, ◌-◌, ◌*◌, ◌/◌, ◌^◌, ◌≤◌, zero-le, suc-le-suc}
use Rattle.std.proofs.Math.Nat.{add-zero, div-add-mod'}
use native.Mathlib.Omega.{arith}
use Rattle.lists.specs.Bytes.{Bytes, same}
use Rattle.lists.specs.Same.{same_refl, same_eq}
use Rattle.rules.specs.Numbers.{Version, limit}
use Rattle.rules.specs.Paths.{after, hops}
use Rattle.rules.specs.Messages.{start_msg, size, part, component, components, advancement_proof, Lawful}
use Rattle.rules.specs.Refusals.{state_broken, no_such_number, wrong_length, row_differs, link_differs}
use Rattle.rules.specs.Held.{basis, held_of, is_in_order}
use Rattle.rules.specs.Checking.{accepted, agrees, advance_walk, advance}
use Rattle.rules.proofs.Verdicts.{must_at_go, must_go, upward_test}
use Rattle.rules.proofs.Hops.{level_below, tz_max, end, Rides, hops_ride}
use Rattle.rules.proofs.Rows.{high_rows, hop_rows, agree_rows, basis_free}
use Rattle.rules.proofs.Honest.{component_link, components_length, met, onward}

-- The state that digests give at i, with T(0) of its log as the first, is in order.
pub held_in_order : (H : Bytes → Bytes) (v : Version) (log : ℕ) (T : ℕ → Bytes) (i : ℕ) → T 0 ≡ H (start_msg v log) → i ≤ limit v → is_in_order H v (held_of v log T i) ≡ true
unfolding is_in_order
held_in_order H v log T i start h = (and-eq-true_iff _ _).1 (le-leb i (limit v) h, (and-eq-true_iff _ _).1 (basis_free T i v.levels, begun i))
  where
    begun : (i : ℕ) → (leb 1 i || same (T i) (H (start_msg v log))) ≡ true
    begun zero = same_eq (T 0) _ start
    begun (suc i) = rw (le-leb 1 (suc i) (suc-le-suc zero-le))

module _ (H : Bytes → Bytes) (v : Version) (log : ℕ) (body T : ℕ → Bytes) (n : ℕ) (L : Lawful H v body T n) (K64 : v.levels ≤ 64) (top : n ≤ limit v) where
  honest_walk : (ls : List ℕ) (j : ℕ) (pre : Bytes) (o k : ℕ) → length pre ≡ o → Rides j ls → end j ls ≤ n
      → advance_walk H v (held_of v log T j) ls (pre ++ components body T (after j ls)) o (T (end j ls)) k ≡ accepted (k + length ls, held_of v log T (end j ls))
  unfolding advance_walk
  honest_walk [] j pre o k e r h = rw (same_refl (T j), add-zero k)
  honest_walk (l ∷ ls) j pre o k e r h =
      let i = j + 2 ^ l in
      let K = v.levels in
      let c = component body T i in
      let rest = components body T (after i ls) in
      let p = pre ++ (c ++ rest) in
      let m = met H v body T n L j l ls pre o e r h in
      let l_k : l ≤ K = let q = level_below l K n (omega (arith, m.high)) (lt_of_le_ones K top) in omega arith in
      let whole : suc (j / 2 ^ l) * 2 ^ l ≡ i = let d = div-add-mod' j (2 ^ l) in omega (arith, r.1) in
      let rows : agrees v l (j / 2 ^ l) (drop l (basis T j 0 K)) (part v p o i) ≡ true =
      ap₂ (λ (x : List Bytes) (y : Bytes). agrees v l (j / 2 ^ l) x y) (high_rows T K l j l_k r.1) m.there
      ∙ agree_rows T v i c (λ a g d. component_link H v body T n L i a m.low m.high (tz_max 64 i a g d)) (K - l) l (j / 2 ^ l) (omega arith) whole in
      must_at_go _ _ row_differs k _ rows
      ∙ must_at_go _ _ link_differs k _ (same_eq _ (T j) m.link)
      ∙ ap₂ (λ (t : Bytes) (x : List Bytes). advance_walk H v (record { log = log; count = i; digest = t; rows = x }) ls p (o + size v i) (T (end i ls)) (suc k)) m.hashed (hop_rows T K l j l_k r.1)
      ∙ ap (λ (x : Bytes). advance_walk H v (held_of v log T i) ls x (o + size v i) (T (end i ls)) (suc k)) (sym (append_assoc pre c rest))
      ∙ honest_walk ls i (pre ++ c) (o + size v i) (suc k) (onward H v body T n L j l pre o e m.low m.high) r.2 h
      ∙ ap (λ (x : ℕ). accepted (x, held_of v log T (end i ls))) (omega arith)

  -- HONEST ADVANCEMENT PROOFS ARE ACCEPTED, with the path's hops, and hand back the state at n.
  pub honest_advance : T 0 ≡ H (start_msg v log) → (i : ℕ) → i ≤ n
      → advance H v (held_of v log T i) n (T n) (advancement_proof body T i n) ≡ accepted (length (hops i n), held_of v log T n)
  unfolding advance
  honest_advance start i h =
      let ride = hops_ride i n h in
      let en : end i (hops i n) ≤ n = omega (arith, ride.1) in
      must_go _ state_broken 0 _ (held_in_order H v log T i start (le_trans h top))
      ∙ must_go _ no_such_number 0 _ (upward_test v i n h top)
      ∙ must_go _ wrong_length 0 _ (eq-eqb _ _ (components_length H v body T n L (hops i n) i en))
      ∙ ap (λ (x : ℕ). advance_walk H v (held_of v log T i) (hops i n) (advancement_proof body T i n) 0 (T x) 0) (sym ride.1)
      ∙ honest_walk (hops i n) i [] 0 0 refl ride.0 en
      ∙ ap₂ (λ (x y : ℕ). accepted (x, held_of v log T y)) (zero-add (length (hops i n))) ride.1
