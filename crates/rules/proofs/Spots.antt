-- The differing component nearest n, found by a walk from the front that keeps the last one seen; and the dispute's two calls by what their tests give.
use Rattle.std.proofs.Math.Path.{◌≡◌, refl, ap}
use Rattle.std.proofs.Common.{◌∙◌, true≢false}
use Rattle.std.specs.Prelude.{Bool, cond, ◌&&◌, eqb, length}
use Rattle.std.proofs.Math.Bool.{true, false}
use Rattle.std.proofs.lemmas.Bool.{false≢true}
use mathlib.Core.List.{List, [], ◌∷◌}
use Rattle.std.proofs.Math.Option.{Option, none, some}
use Prim.Native.Nat.{ℕ, ◌+◌, ◌^◌, ◌≤◌, ◌<◌}
use native.Mathlib.Omega.{arith}
use Rattle.lists.specs.Bytes.{Bytes, same}
use Rattle.rules.specs.Numbers.{Version}
use Rattle.rules.specs.Paths.{level, path, path_after}
use Rattle.rules.specs.Messages.{size, total, part, entry_msg}
use Rattle.rules.specs.Refusals.{output_short, not_accepted}
use Rattle.rules.specs.Checking.{Verdict, accepted, refused, is_accepted, between, member}
use Rattle.rules.specs.Dispute.{unlike, or_else, differs_at, nearest, messages, dispute, part_of, differing, roomy}
use Rattle.rules.specs.Calls.{Disputed, denied, disputed, showing, both_accepted, dispute_call}
use Rattle.rules.proofs.Hops.{after_step, after_end}

-- Nothing after it changes nothing.
pub or_else_none : {A : Type 0} (x : Option A) → or_else x none ≡ x
or_else_none (some x) = refl
or_else_none none = refl

-- Of several the first that is there counts, however they are grouped.
pub or_else_assoc : {A : Type 0} (x y z : Option A) → or_else (or_else x y) z ≡ or_else x (or_else y z)
or_else_assoc (some x) y z = refl
or_else_assoc none y z = refl

module _ (v : Version) (p q : Bytes) where
  -- The search begins with the component of i: what is found behind it goes before it.
  pub nearest_start : (i n : ℕ) → nearest v (path i n) p q 0 ≡ or_else (nearest v (path_after i n) p q (0 + size v i)) (differs_at v p q i 0)
  unfolding nearest path
  nearest_start i n = refl

  -- The next component is where the hop ends, and what differs there goes before what was found earlier.
  pub nearest_step : (j n o : ℕ) (s : Option (ℕ × ℕ)) → j < n →
      let to = j + 2 ^ level j n in
      or_else (nearest v (path_after j n) p q o) s ≡ or_else (nearest v (path_after to n) p q (o + size v to)) (or_else (differs_at v p q to o) s)
  unfolding nearest path
  nearest_step j n o s h =
      let to = j + 2 ^ level j n in
      ap (λ (js : List ℕ). or_else (nearest v js p q o) s) (after_step j n h)
      ∙ or_else_assoc (nearest v (path_after to n) p q (o + size v to)) (differs_at v p q to o) s

  -- At n the search is over.
  pub nearest_end : (j n o : ℕ) (s : Option (ℕ × ℕ)) → j ≡ n → or_else (nearest v (path_after j n) p q o) s ≡ s
  unfolding nearest
  nearest_end j n o s e = ap (λ (x : ℕ). or_else (nearest v (path_after x n) p q o) s) e ∙ ap (λ (js : List ℕ). or_else (nearest v js p q o) s) (after_end n)

  -- What is found stands inside the proofs.
  pub nearest_inside : (js : List ℕ) (o j at : ℕ) → nearest v js p q o ≡ some (j, at) → at + size v j ≤ o + total v js
  unfolding nearest
  nearest_inside [] o j at e = let z : ◌≡◌ {A = ℕ} 0 1 = cc in omega arith
  nearest_inside (x ∷ js) o j at e = go (nearest v js p q (o + size v x)) (same (part v p o x) (part v q o x)) refl (nearest_inside js (o + size v x) j at) e
    where
      go : (r : Option (ℕ × ℕ)) (b : Bool) → nearest v js p q (o + size v x) ≡ r → (nearest v js p q (o + size v x) ≡ some (j, at) → at + size v j ≤ o + size v x + total v js)
          → or_else r (unlike b (x, o)) ≡ some (j, at) → at + size v j ≤ o + (size v x + total v js)
      go (some y) b f ih g = let h = ih (f ∙ g) in omega arith
      go none true f ih g = let z : ◌≡◌ {A = ℕ} 0 1 = cc in omega arith
      go none false f ih g =
          let w : ◌≡◌ {A = ℕ × ℕ} (x, o) (j, at) = cc in
          let s : size v x ≡ size v j = ap (λ (t : ℕ × ℕ). size v t.0) w in
          let c : o ≡ at = ap (λ (t : ℕ × ℕ). t.1) w in
          omega arith

  -- The two messages, by what was found and whether the entries are the same.
  pub dispute_is : (i n : ℕ) (e1 e2 : Bytes) {s : Option (ℕ × ℕ)} {b : Bool} → nearest v (path i n) p q 0 ≡ s → same e1 e2 ≡ b
      → dispute v i n e1 e2 p q ≡ or_else (messages v p q s) (unlike b (entry_msg e1, entry_msg e2))
  unfolding dispute
  dispute_is i n e1 e2 f g = rw (f, g)

  -- The second call, by what its tests give.
  pub differing_is : (i n : ℕ) {b4 bp bq : Bool} {s : Option (ℕ × ℕ)} → between v i n ≡ b4 → eqb (length p) (total v (path i n)) ≡ bp → eqb (length q) (total v (path i n)) ≡ bq
      → nearest v (path i n) p q 0 ≡ s → differing v i n p q ≡ cond (b4 && (bp && bq)) (part_of v s) (part_of v none)
  unfolding differing
  differing_is i n e4 ep eq es = rw (e4, ep, eq, es)

-- ---- who is refused, by the two verdicts

module _ (o : Disputed) (b1 b2 : Bytes) where
  -- Where the first is refused, 1 is said, whatever the second is;
  pub first_refused : (x y : Verdict ℕ) → is_accepted x ≡ false → both_accepted x y o b1 b2 ≡ disputed (denied not_accepted 1) b1 b2
  first_refused (refused num k w) y e = refl
  first_refused (accepted m) y e = absurd (true≢false e)

  -- where only the second is, 2.
  pub second_refused : (x y : Verdict ℕ) → is_accepted x ≡ true → is_accepted y ≡ false → both_accepted x y o b1 b2 ≡ disputed (denied not_accepted 2) b1 b2
  second_refused (refused num k w) y e f = absurd (false≢true e)
  second_refused (accepted m) (refused num k w) e f = refl
  second_refused (accepted m) (accepted m') e f = absurd (true≢false f)

  -- Where both are accepted the outcome is that of the dispute.
  pub none_refused : (x y : Verdict ℕ) → is_accepted x ≡ true → is_accepted y ≡ true → both_accepted x y o b1 b2 ≡ o
  none_refused (refused num k w) y e f = absurd (false≢true e)
  none_refused (accepted m) (refused num k w) e f = absurd (false≢true f)
  none_refused (accepted m) (accepted m') e f = refl

-- The whole outcome of the dispute, by what its parts give.
pub disputed_is : (H : Bytes → Bytes) (v : Version) (e1 p1 e2 p2 : Bytes) (i n : ℕ) (D b1 b2 : Bytes) {b : Bool} {x y : Verdict ℕ} {z : Option (Bytes × Bytes)}
    → roomy b1 b2 ≡ b → member H v e1 i n D p1 ≡ x → member H v e2 i n D p2 ≡ y → dispute v i n e1 e2 p1 p2 ≡ z
    → dispute_call H v e1 p1 e2 p2 i n D b1 b2 ≡ cond b (both_accepted x y (showing z b1 b2) b1 b2) (disputed (denied output_short 0) b1 b2)
unfolding dispute_call
disputed_is H v e1 p1 e2 p2 i n D b1 b2 eb ex ey ez = rw (eb, ex, ey, ez)
