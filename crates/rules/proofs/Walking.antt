-- The two checks at the numbers that code has: where the bytes of a proof stand, the next hop of a walk and its end, and each check by what its
-- tests give.
use Rattle.std.specs.Prelude.{◌≡◌, refl, Bool, ℕ, zero, suc, ◌+◌, ◌*◌, ◌/◌, ◌^◌, ◌≤◌, ◌<◌, leb, eqb, length, drop}
use Rattle.std.proofs.Math.Path.{ap}
use Rattle.std.proofs.Common.{◌∙◌, zero-add, arith, take-take, drop-drop}
use mathlib.Core.List.{List, [], ◌∷◌}
use Rattle.std.proofs.Math.Nat.{add-zero}
use Rattle.std.proofs.Math.ListN.{take}
use Rattle.lists.specs.Bytes.{Bytes, same}
use Rattle.rules.specs.Numbers.{Version, entry_limit}
use Rattle.rules.specs.Paths.{tz, level, hops, path, path_after}
use Rattle.rules.specs.Messages.{entry_msg, size, total, row, part}
use Rattle.rules.specs.Refusals.{state_broken, too_long, no_such_number, wrong_length, other_entry, row_differs, link_differs, digest_differs}
use Rattle.rules.specs.Held.{Held, is_in_order}
use Rattle.rules.specs.Checking.{accepted, must_at, must, place, between, upward, digest_at, walk, member, agrees, off_row, hopped, advance_walk, advance}
use Rattle.rules.proofs.Hops.{hop_links, hops_step, hops_end}

-- A piece of a front part is a piece of the whole.
pub take_drop_take : (k a s : ℕ) (xs : Bytes) → a + k ≤ s → take k (drop a (take s xs)) ≡ take k (drop a xs)
take_drop_take k zero s xs h = take-take k s xs (omega arith)
take_drop_take k (suc a) zero xs h = absurd (omega arith)
take_drop_take k (suc a) (suc s) [] h = refl
take_drop_take k (suc a) (suc s) (x ∷ xs) h = take_drop_take k a s xs (omega arith)

module _ (v : Version) where
  -- A row of a component is 32 bytes of the proof.
  pub row_at : (p : Bytes) (o j r : ℕ) → r ≤ tz j + 1 → row v (part v p o j) r ≡ take 32 (drop (o + (v.before + 32 * r)) p)
  row_at p o j r h =
      take_drop_take 32 (v.before + 32 * r) (size v j) (drop o p) (omega arith) ∙ ap (λ (x : Bytes). take 32 x) (drop-drop (v.before + 32 * r) o p)

  -- The link that a hop toward n compares stands in the component where the hop ends.
  pub link_at : (p : Bytes) (o j n : ℕ) → j < n →
      let l = level j n in
      row v (part v p o (j + 2 ^ l)) (suc l) ≡ take 32 (drop (o + (v.before + 32 * suc l)) p)
  link_at p o j n h = let s = hop_links j n h in row_at p o (j + 2 ^ level j n) (suc (level j n)) (omega arith)

module _ (H : Bytes → Bytes) (v : Version) where
  -- ---- membership

  -- Below n a walk compares one link, and goes on from where the hop ends.
  pub walk_step : (j n : ℕ) (t p : Bytes) (o : ℕ) (D : Bytes) (k : ℕ) → j < n →
      let l = level j n in
      let to = j + 2 ^ l in
      walk H v j t (hops j n) p o D k
      ≡ must_at (place to l) (same (take 32 (drop (o + (v.before + 32 * suc l)) p)) t) link_differs k (walk H v to (digest_at H v p o to) (hops to n) p (o + size v to) D (suc k))
  unfolding walk
  walk_step j n t p o D k h =
      let to = j + 2 ^ level j n in
      ap (λ (ls : List ℕ). walk H v j t ls p o D k) (hops_step j n h)
      ∙ ap (λ (x : Bytes). must_at (place to (level j n)) (same x t) link_differs k (walk H v to (digest_at H v p o to) (hops to n) p (o + size v to) D (suc k))) (link_at v p o j n h)

  -- At n the last digest decides.
  pub walk_end : (j n : ℕ) (t p : Bytes) (o : ℕ) (D : Bytes) (k : ℕ) → j ≡ n → walk H v j t (hops j n) p o D k ≡ must (same t D) digest_differs k (accepted k)
  unfolding walk
  walk_end j n t p o D k e = ap (λ (x : ℕ). walk H v j t (hops x n) p o D k) e ∙ ap (λ (ls : List ℕ). walk H v j t ls p o D k) (hops_end n)

  -- The check of membership, by what its tests give.
  pub member_is : (e : Bytes) (i n : ℕ) (D p : Bytes) {b3 b4 b7 b8 : Bool} → leb (length e) entry_limit ≡ b3 → between v i n ≡ b4
      → eqb (length p) (total v (path i n)) ≡ b7 → same (take 32 (drop v.before p)) (H (entry_msg e)) ≡ b8
      → member H v e i n D p
      ≡ must b3 too_long 0 (must b4 no_such_number 0 (must b7 wrong_length 0 (must b8 other_entry 0 (walk H v i (digest_at H v p 0 i) (hops i n) p (size v i) D 0))))
  unfolding member
  member_is e i n D p e3 e4 e7 e8 =
      let first : row v (part v p 0 i) 0 ≡ take 32 (drop v.before p) =
      row_at v p 0 i 0 (omega arith) ∙ ap (λ (x : ℕ). take 32 (drop x p)) (zero-add (v.before + 0) ∙ add-zero v.before) in
      rw (first, e3, e4, e7, e8)

  -- ---- advancement

  -- Below n a walk compares the rows in use, then one link, and goes on with the state after the hop.
  pub advance_walk_step : (h : Held) (n : ℕ) (p : Bytes) (o : ℕ) (D : Bytes) (k : ℕ) → h.count < n →
      let l = level h.count n in
      let to = h.count + 2 ^ l in
      advance_walk H v h (hops h.count n) p o D k
      ≡ must_at (place to (off_row v l (drop l h.rows) (part v p o to))) (agrees v l (h.count / 2 ^ l) (drop l h.rows) (part v p o to)) row_differs k
      (must_at (place to l) (same (take 32 (drop (o + (v.before + 32 * suc l)) p)) h.digest) link_differs k (advance_walk H v (hopped H v h l p o) (hops to n) p (o + size v to) D (suc k)))
  unfolding advance_walk
  advance_walk_step h n p o D k b =
      let l = level h.count n in
      let to = h.count + 2 ^ l in
      ap (λ (ls : List ℕ). advance_walk H v h ls p o D k) (hops_step h.count n b)
      ∙ ap (λ (x : Bytes). must_at (place to (off_row v l (drop l h.rows) (part v p o to))) (agrees v l (h.count / 2 ^ l) (drop l h.rows) (part v p o to)) row_differs k
      (must_at (place to l) (same x h.digest) link_differs k (advance_walk H v (hopped H v h l p o) (hops to n) p (o + size v to) D (suc k)))) (link_at v p o h.count n b)

  -- At n the last digest decides.
  pub advance_walk_end : (h : Held) (n : ℕ) (p : Bytes) (o : ℕ) (D : Bytes) (k : ℕ) → h.count ≡ n
      → advance_walk H v h (hops h.count n) p o D k ≡ must (same h.digest D) digest_differs k (accepted (k, h))
  unfolding advance_walk
  advance_walk_end h n p o D k e = ap (λ (x : ℕ). advance_walk H v h (hops x n) p o D k) e ∙ ap (λ (ls : List ℕ). advance_walk H v h ls p o D k) (hops_end n)

  -- The check of an advancement, by what its tests give.
  pub advance_is : (h : Held) (n : ℕ) (D p : Bytes) {b2 b4 b7 : Bool} → is_in_order H v h ≡ b2 → upward v h.count n ≡ b4
      → eqb (length p) (total v (path_after h.count n)) ≡ b7
      → advance H v h n D p ≡ must b2 state_broken 0 (must b4 no_such_number 0 (must b7 wrong_length 0 (advance_walk H v h (hops h.count n) p 0 D 0)))
  unfolding advance
  advance_is h n D p e2 e4 e7 = rw (e2, e4, e7)
