-- MORE LEVELS MOVE NOTHING BELOW THE LIMIT THAT WAS: of two versions that differ in their levels alone, the checks say the same of every length up to the lower
-- limit, and a state is in order as it was, with further rows that are free. So request A7 leaves what a practice was told of a log of up to 1,048,575 lots as it stood.
use Rattle.std.specs.Prelude.{◌≡◌, ◌⊎◌, Bool, ◌&&◌, ◌||◌, ℕ, zero, suc, ◌+◌, ◌-◌, ◌/◌, ◌^◌, ◌≤◌, ◌<◌, eqb, take, drop}
use Rattle.std.proofs.Math.Path.{refl, ap}
use Rattle.std.proofs.Common.{sym, ◌∙◌, inl, inr, true≢false, pow-suc, add-one, arith, pow_pos, pow_mono, shr_lt, lt_of_le_ones, length-drop, le-leb, leb-true}
use Rattle.std.proofs.Math.Bool.{true, false, cond}
use mathlib.Core.List.{List, [], ◌∷◌, ◌++◌, append_assoc}
use Rattle.std.proofs.Math.Nat.{le_trans, add-div_right}
use Rattle.std.proofs.Math.Dec.{leb}
use Rattle.std.proofs.Math.ListN.{length, replicate}
use Rattle.std.proofs.lemmas.List.{take-append-le, drop-append-le}
use Rattle.lists.specs.Bytes.{Bytes, same, zeros}
use Rattle.rules.specs.Numbers.{Version, v1, limit, wider}
use Rattle.rules.specs.Paths.{hops, path, path_after}
use Rattle.rules.specs.Messages.{start_msg, size, total, row, part}
use Rattle.rules.specs.Refusals.{state_broken, no_such_number, wrong_length, row_differs, link_differs, digest_differs}
use Rattle.rules.specs.Held.{Held, odd, free_zero, is_in_order, widened}
use Rattle.rules.specs.Checking.{Verdict, accepted, refused, place, must_at, must, digest_at, walk, member, agrees, off_row, carried, rows_after, hopped, advance_walk, advance}
use Rattle.rules.proofs.Hops.{end, end_le, hops_ride, level_below}
use Rattle.rules.proofs.Parity.{Odd, Even, parity}
use Rattle.rules.proofs.Carrying.{rows_after_length}

-- Its limit is no lower.
pub limit_wider : (k : ℕ) (v : Version) → limit v ≤ limit (wider k v)
limit_wider k v = let m : 2 ^ v.levels ≤ 2 ^ (v.levels + k) = pow_mono (omega arith) in omega arith

module _ (k : ℕ) (v : Version) (n : ℕ) (top : n ≤ limit v) where
  within : leb n (limit (wider k v)) ≡ leb n (limit v)
  within = le-leb n (limit (wider k v)) (le_trans top (limit_wider k v)) ∙ sym (le-leb n (limit v) top)

-- the bytes of components do not depend on the levels
total_wider : (k : ℕ) (v : Version) (js : List ℕ) → total (wider k v) js ≡ total v js
total_wider k v [] = refl
total_wider k v (j ∷ js) = ap (λ (x : ℕ). size v j + x) (total_wider k v js)

-- ---- membership

module _ (H : Bytes → Bytes) (k : ℕ) (v : Version) where
  walk_wider : (ls : List ℕ) (j : ℕ) (t p : Bytes) (o : ℕ) (D : Bytes) (m : ℕ) → walk H (wider k v) j t ls p o D m ≡ walk H v j t ls p o D m
  unfolding walk
  walk_wider [] j t p o D m = refl
  walk_wider (l ∷ ls) j t p o D m = rw (walk_wider ls)

  -- EVERY MEMBERSHIP CHECK FOR A LENGTH UP TO THE LOWER LIMIT SAYS THE SAME.
  pub member_wider : (e : Bytes) (i n : ℕ) (D p : Bytes) → n ≤ limit v → member H (wider k v) e i n D p ≡ member H v e i n D p
  unfolding member
  member_wider e i n D p top = rw (within k v n top, total_wider k v (path i n), walk_wider)

-- ---- what a practice holds

-- A free row that is zero changes nothing, wherever it stands.
zero_rows : (q k : ℕ) → free_zero q (replicate k zeros) ≡ true
unfolding free_zero
zero_rows q zero = refl
zero_rows q (suc k) = rw (zero_rows (q / 2) k) (go (odd q))
  where
    go : (b : Bool) → ((b || same zeros zeros) && true) ≡ true
    go true = refl
    go false = refl

free_wider : (k : ℕ) (rs : List Bytes) (q : ℕ) → free_zero q (rs ++ replicate k zeros) ≡ free_zero q rs
unfolding free_zero
free_wider k [] q = zero_rows q k
free_wider k (r ∷ rs) q = rw (free_wider k rs (q / 2))

-- A STATE UP TO THE LOWER LIMIT IS IN ORDER EXACTLY IF IT WAS.
pub order_wider : (H : Bytes → Bytes) (k : ℕ) (v : Version) (h : Held) → h.count ≤ limit v → is_in_order H (wider k v) (widened k h) ≡ is_in_order H v h
unfolding is_in_order start_msg
order_wider H k v h top = rw (within k v h.count top, free_wider k h.rows h.count)

-- ---- one hop: below the limit the carry ends within the rows that were; q counts in steps of the first row's level

module _ (k : ℕ) where
  -- one step up the rows, where the first is in use
  up : (rs : List Bytes) (q : ℕ) → Odd q → suc q < 2 ^ suc (length rs) → suc (q / 2) < 2 ^ length rs
  up rs q o h = let two = pow-suc 2 (length rs) in omega (arith, o.twice)

  agrees_wider : (v : Version) (x : Bytes) (rs : List Bytes) (c q : ℕ) → suc q < 2 ^ length rs → agrees (wider k v) c q (rs ++ replicate k zeros) x ≡ agrees v c q rs x
  unfolding agrees
  agrees_wider v x [] c q h = absurd (omega arith)
  agrees_wider v x (r ∷ rs) c q h = go (parity q) (agrees_wider v x rs (suc c) (q / 2))
    where
      go : Odd q ⊎ Even q → (suc (q / 2) < 2 ^ length rs → agrees (wider k v) (suc c) (q / 2) (rs ++ replicate k zeros) x ≡ agrees v (suc c) (q / 2) rs x)
          → agrees (wider k v) c q (r ∷ rs ++ replicate k zeros) x ≡ agrees v c q (r ∷ rs) x
      go (inl o) ih = rw (o.here, ih (up rs q o h))
      go (inr e) ih = rw e.here

  -- the row named is one of those that were
  off_wider : (v : Version) (x : Bytes) (rs : List Bytes) (c q : ℕ) → agrees v c q rs x ≡ false → off_row (wider k v) c (rs ++ replicate k zeros) x ≡ off_row v c rs x
  unfolding agrees off_row
  off_wider v x [] c q a = absurd (true≢false a)
  off_wider v x (r ∷ rs) c q a = go (odd q) (same r (row v x (suc (suc c)))) a (off_wider v x rs (suc c) (q / 2))
    where
      go : (u t : Bool) → cond u (t && agrees v (suc c) (q / 2) rs x) true ≡ false
          → (agrees v (suc c) (q / 2) rs x ≡ false → off_row (wider k v) (suc c) (rs ++ replicate k zeros) x ≡ off_row v (suc c) rs x)
          → cond t (off_row (wider k v) (suc c) (rs ++ replicate k zeros) x) c ≡ cond t (off_row v (suc c) rs x) c
      go false t a ih = absurd (true≢false a)
      go true false a ih = refl
      go true true a ih = ih a

  carried_wider : (rs : List Bytes) (q : ℕ) (t : Bytes) → suc q < 2 ^ length rs → carried q (rs ++ replicate k zeros) t ≡ carried q rs t ++ replicate k zeros
  unfolding carried
  carried_wider [] q t h = absurd (omega arith)
  carried_wider (r ∷ rs) q t h = go (parity q) (carried_wider rs (q / 2) r)
    where
      go : Odd q ⊎ Even q → (suc (q / 2) < 2 ^ length rs → carried (q / 2) (rs ++ replicate k zeros) r ≡ carried (q / 2) rs r ++ replicate k zeros)
          → carried q (r ∷ rs ++ replicate k zeros) t ≡ carried q (r ∷ rs) t ++ replicate k zeros
      go (inl o) ih = rw (o.here, ih (up rs q o h))
      go (inr e) ih = rw e.here

-- ---- advancing

-- a verdict whose state has k further rows
abbrev pub widened_verdict : ℕ → Verdict (ℕ × Held) → Verdict (ℕ × Held)
widened_verdict k (accepted x) = accepted (x.0, widened k x.1)
widened_verdict k (refused num m w) = refused num m w

module _ (H : Bytes → Bytes) (k : ℕ) (v : Version) where
  module _ (h : Held) (l : ℕ) (rows : length h.rows ≡ v.levels) (top : h.count + 2 ^ l ≤ limit v) where
    below : l < v.levels
    below = level_below l v.levels (h.count + 2 ^ l) (omega arith) (lt_of_le_ones v.levels top)

    ends : suc (h.count / 2 ^ l) < 2 ^ length (drop l h.rows)
    ends =
        let s : v.levels - l + l ≡ v.levels = omega (arith, below) in
        let d : h.count + 2 ^ l < 2 ^ (v.levels - l + l) = rw s (lt_of_le_ones v.levels top) in
        let e : (h.count + 2 ^ l) / 2 ^ l ≡ suc (h.count / 2 ^ l) = add-div_right h.count (pow_pos l) ∙ add-one (h.count / 2 ^ l) in
        rw (length-drop l h.rows, rows, ← e) (shr_lt (v.levels - l) l d)

    dropped : drop l (widened k h).rows ≡ drop l h.rows ++ replicate k zeros
    dropped = drop-append-le l h.rows (replicate k zeros) (omega (arith, below))

    hop_rows : rows_after l (widened k h) ≡ rows_after l h ++ replicate k zeros
    hop_rows =
        rw (take-append-le l h.rows (replicate k zeros) (omega (arith, below)), dropped, carried_wider k (drop l h.rows) (h.count / 2 ^ l) h.digest ends)
        (sym (append_assoc (take l h.rows) (carried (h.count / 2 ^ l) (drop l h.rows) h.digest) (replicate k zeros)))

    hop_wider : (p : Bytes) (o : ℕ) → hopped H (wider k v) (widened k h) l p o ≡ widened k (hopped H v h l p o)
    hop_wider p o =
        ap (λ (rs : List Bytes). record { log = h.log; count = h.count + 2 ^ l; digest = digest_at H v p o (h.count + 2 ^ l); rows = rs }) hop_rows

  -- the walk of both versions goes on alike
  steps_wider : (ls : List ℕ) (h : Held) (p : Bytes) (o : ℕ) (D : Bytes) (m : ℕ) → length h.rows ≡ v.levels → end h.count ls ≤ limit v
      → advance_walk H (wider k v) (widened k h) ls p o D m ≡ widened_verdict k (advance_walk H v h ls p o D m)
  unfolding advance_walk
  steps_wider [] h p o D m rows top = go (same h.digest D)
    where
      go : (b : Bool) → must b digest_differs m (accepted (m, widened k h)) ≡ widened_verdict k (must b digest_differs m (accepted (m, h)))
      go true = refl
      go false = refl
  steps_wider (l ∷ ls) h p o D m rows top =
      let to = h.count + 2 ^ l in
      let near = le_trans (end_le ls to) top in
      let q = h.count / 2 ^ l in
      let x = part v p o to in
      let rest = steps_wider ls (hopped H v h l p o) p (o + size v to) D (suc m) (rows_after_length h l ∙ rows) top in
      rw (hop_wider h l rows near p o, rest, dropped h l rows near, agrees_wider k v x (drop l h.rows) l q (ends h l rows near))
      (go (agrees v l q (drop l h.rows) x) (off_wider k v x (drop l h.rows) l q) (same (row v x (suc l)) h.digest))
    where
      go : (b : Bool) → ((b ≡ false) → off_row (wider k v) l (drop l h.rows ++ replicate k zeros) (part v p o (h.count + 2 ^ l)) ≡ off_row v l (drop l h.rows) (part v p o (h.count + 2 ^ l)))
          → (c : Bool) →
          let to = h.count + 2 ^ l in
          let x = part v p o to in
          let r = advance_walk H v (hopped H v h l p o) ls p (o + size v to) D (suc m) in
          must_at (place to (off_row (wider k v) l (drop l h.rows ++ replicate k zeros) x)) b row_differs m (must_at (place to l) c link_differs m (widened_verdict k r))
          ≡ widened_verdict k (must_at (place to (off_row v l (drop l h.rows) x)) b row_differs m (must_at (place to l) c link_differs m r))
      go true f true = refl
      go true f false = refl
      go false f c = ap (λ (y : ℕ). refused row_differs m (place (h.count + 2 ^ l) y)) (f refl)

  -- EVERY ADVANCE TO A LENGTH UP TO THE LOWER LIMIT SAYS THE SAME, AND HANDS BACK THE SAME STATE, further rows free.
  pub advance_wider : (h : Held) (n : ℕ) (D p : Bytes) → length h.rows ≡ v.levels → n ≤ limit v → h.count ≤ limit v
      → advance H (wider k v) (widened k h) n D p ≡ widened_verdict k (advance H v h n D p)
  unfolding advance
  advance_wider h n D p rows top few =
      rw (order_wider H k v h few, within k v n top, total_wider k v (path_after h.count n))
      (go (is_in_order H v h) (leb h.count n) refl (leb n (limit v)) (eqb (length p) (total v (path_after h.count n))))
    where
      go : (a b : Bool) → leb h.count n ≡ b → (c d : Bool)
          → must a state_broken 0 (must (b && c) no_such_number 0 (must d wrong_length 0 (advance_walk H (wider k v) (widened k h) (hops h.count n) p 0 D 0)))
          ≡ widened_verdict k (must a state_broken 0 (must (b && c) no_such_number 0 (must d wrong_length 0 (advance_walk H v h (hops h.count n) p 0 D 0))))
      go false b e c d = refl
      go true false e c d = refl
      go true true e false d = refl
      go true true e true false = refl
      go true true e true true =
          let ride = hops_ride h.count n (leb-true h.count n e) in
          steps_wider (hops h.count n) h p 0 D 0 rows (rw ride.1 top)

-- ---- request A7

-- the version of the base before it
abbrev pub twenty : Version
twenty = record { number = 1; levels = 20; before = 0 }

-- The base has twelve levels more, and nothing else of it moved: so all of this is true of `twenty` and `v1`, for lengths and counts up to 1,048,575.
pub twelve_more : (wider 12 twenty ≡ v1) × (limit twenty ≡ 1048575)
twelve_more = (refl, refl)
