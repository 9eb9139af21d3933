-- A path from an even element is a path at half the size, doubled. So one more level adds at most a hop and a link to each component, and an
-- element before them where the path starts at an odd one: the induction behind the bounds. To the last number of the levels it adds just that, so the bounds are
-- reached, whatever the number of levels.
use Rattle.std.specs.Prelude.{◌≡◌, ◌⊎◌, List, [], ◌∷◌, ◌++◌, map, length}
use Rattle.std.proofs.Math.Path.{refl}
use Rattle.std.proofs.Common.{sym, ap, ◌∙◌, subst, inl, inr, zero-add, le_trans, le_antisymm, le_of_suc-le-suc, mul-div_cancel, zero-lt-suc, add-one, pow_mono, length-append}
use Prim.Native.Nat.{ℕ, zero, suc, ◌+◌, ◌-◌, ◌*◌, ◌/◌, ◌%◌, ◌^◌, ◌≤◌, ◌<◌, zero-le, suc-le-suc}
use Rattle.std.proofs.Math.Nat.{pow-suc, mul-mod_left}
use native.Mathlib.Omega.{arith}
use Rattle.std.proofs.Math.Decide.{dec_lt}
use Rattle.std.proofs.Math.Pow.{pow_pos}
use Rattle.std.specs.Int.Count.{count_trailing_zeros, under}
use Rattle.std.proofs.lemmas.List.{length-map}
use Rattle.rules.specs.Numbers.{Version}
use Rattle.rules.specs.Paths.{tz, level, after, path, path_after}
use Rattle.rules.specs.Messages.{total}
use Rattle.rules.proofs.Hops.{level_below, Hop, Best, level_best, level_max, hops_ind, path_end, after_step, after_end, split_mod, join_mod, tz_divides, tz_max, tz_power}

-- ---- a path from an even element is a path at half the size, doubled

abbrev dbl : ℕ → ℕ
dbl x = x * 2

-- the last element, where it is odd
abbrev tip : ℕ → ℕ → List ℕ
tip zero n = []
tip (suc r) n = n ∷ []

-- from an odd element, and to the next one, the hop is over one
level_zero : (i n l : ℕ) → Hop i n l → (i % 2 ≡ 1) ⊎ (n ≡ suc i) → l ≡ 0
level_zero i n zero h c = refl
level_zero i n (suc l) h (inl o) = let s = split_mod i l h.divides in absurd (omega (arith, s.0))
level_zero i n (suc l) h (inr o) = let p = pow_pos l in let r = h.reaches in absurd (omega (arith, pow-suc 2 l))

one_hop : (i n : ℕ) → i < n → (i % 2 ≡ 1) ⊎ (n ≡ suc i) → path_after i n ≡ path (suc i) n
one_hop i n h c = after_step i n h ∙ ap {B = List ℕ} (λ x. path x n) (ap (λ (l : ℕ). i + 2 ^ l) (level_zero i n (level i n) (level_best i n h).hop c) ∙ add-one i)

double_level : (a n l : ℕ) → n < 2 ^ 64 → Best a (n / 2) l → level (a * 2) n ≡ suc l
double_level a n l h b =
    let two = pow-suc 2 l in
    let pos = pow_pos l in
    let r = b.hop.reaches in
    let up : Hop (a * 2) n (suc l) = record {
      divides = join_mod (a * 2) l (mul-mod_left a 2) (rw (mul-div_cancel a (zero-lt-suc 1)) b.hop.divides);
      reaches = omega arith;
    } in
    le_antisymm (down (level (a * 2) n) (level_best (a * 2) n (omega arith))) (level_max (a * 2) n (suc l) (level_below (suc l) 64 n (omega arith) h) up)
  where
    down : (L : ℕ) → Best (a * 2) n L → L ≤ suc l
    down zero g = zero-le
    down (suc m) g =
        let s = split_mod (a * 2) m g.hop.divides in
        let two = pow-suc 2 m in
        let r = g.hop.reaches in
        suc-le-suc (b.most m g.small (record { divides = rw (mul-div_cancel a (zero-lt-suc 1)) at s.1; reaches = omega arith }))

double_after : (a n : ℕ) → n < 2 ^ 64 → a ≤ n / 2 → path_after (a * 2) n ≡ map dbl (path_after a (n / 2)) ++ tip (n % 2) n
unfolding path
double_after a n h k = hops_ind (λ a ls. path_after (a * 2) n ≡ map dbl (after a ls) ++ tip (n % 2) n) (n / 2) (base (n % 2) refl) step a k
  where
    base : (r : ℕ) → n % 2 ≡ r → path_after (n / 2 * 2) n ≡ tip r n
    base zero e = let d : n / 2 * 2 ≡ n = omega arith in ap (λ (x : ℕ). path_after x n) d ∙ after_end n
    base (suc r) e = let d : n ≡ suc (n / 2 * 2) = omega arith in one_hop (n / 2 * 2) n (omega arith) (inr d) ∙ ap (λ (x : ℕ). path x n) (sym d) ∙ path_end n

    step : (i l : ℕ) (ls : List ℕ) → Best i (n / 2) l → path_after ((i + 2 ^ l) * 2) n ≡ map dbl (after (i + 2 ^ l) ls) ++ tip (n % 2) n
        → path_after (i * 2) n ≡ map dbl (after i (l ∷ ls)) ++ tip (n % 2) n
    step i l ls b r =
        let two = pow-suc 2 l in
        let pos = pow_pos l in
        let g = b.hop.reaches in
        let e : i * 2 + 2 ^ suc l ≡ (i + 2 ^ l) * 2 = omega arith in
        after_step (i * 2) n (omega arith)
        ∙ ap (λ (x : ℕ). path (i * 2 + 2 ^ x) n) (double_level i n l h b)
        ∙ ap (λ (x : ℕ). path x n) e
        ∙ ap {B = List ℕ} (λ x. (i + 2 ^ l) * 2 ∷ x) r

-- ---- trailing zeros of a double and of an odd number

tz_mono : (k j : ℕ) → count_trailing_zeros k j ≤ count_trailing_zeros (suc k) j
unfolding count_trailing_zeros
tz_mono zero j = zero-le
tz_mono (suc k) j = go (j % 2) (tz_mono k (j / 2))
  where
    go : (r : ℕ) → count_trailing_zeros k (j / 2) ≤ count_trailing_zeros (suc k) (j / 2) → under r (count_trailing_zeros k (j / 2)) ≤ under r (count_trailing_zeros (suc k) (j / 2))
    go zero h = suc-le-suc h
    go (suc r) h = zero-le

tz_dbl : (k j : ℕ) → count_trailing_zeros (suc k) (j * 2) ≤ suc (count_trailing_zeros (suc k) j)
unfolding count_trailing_zeros
tz_dbl k j = rw (mul-mod_left j 2, mul-div_cancel j (zero-lt-suc 1)) (suc-le-suc (tz_mono k j))

tz_odd : (k n r : ℕ) → n % 2 ≡ suc r → count_trailing_zeros (suc k) n ≡ 0
unfolding count_trailing_zeros
tz_odd k n r e = rw e

-- ---- the bounds, level by level

module _ (v : Version) where
  total_append : (a b : List ℕ) → total v (a ++ b) ≡ total v a + total v b
  total_append [] b = sym (zero-add (total v b))
  total_append (x ∷ a) b = let r = total_append a b in omega arith

  total_dbl : (js : List ℕ) → total v (map dbl js) ≤ total v js + 32 * length js
  total_dbl [] = zero-le
  total_dbl (j ∷ js) = let r = total_dbl js in let t = tz_dbl 63 j in omega arith

  tip_bound : (n r : ℕ) → n % 2 ≡ r → (length (tip r n) ≤ 1) × (total v (tip r n) ≤ v.before + 64)
  tip_bound n zero e = omega arith
  tip_bound n (suc r) e = let t = tz_odd 63 n r e in omega arith

  -- one more level adds at most a hop, and a link to each component
  double_bound : (a n : ℕ) → n < 2 ^ 64 → a ≤ n / 2 →
      let js = path_after a (n / 2) in
      (length (path_after (a * 2) n) ≤ length js + 1) × (total v (path_after (a * 2) n) ≤ total v js + 32 * length js + (v.before + 64))
  double_bound a n h k =
      let js = path_after a (n / 2) in
      let t = tip_bound n (n % 2) refl in
      let d = total_dbl js in
      let e = total_append (map dbl js) (tip (n % 2) n) in
      let f = length-append (map dbl js) (tip (n % 2) n) in
      let g = length-map js dbl in
      rw (double_after a n h k) (omega (arith, t.0), omega (arith, t.1))

  -- what is shown of a path between elements of suc k levels
  pub record Bounded (k i n : ℕ) : Type 0 where
    pub few : length (path_after i n) ≤ 2 * k
    pub short : total v (path i n) ≤ (2 * k + 1) * (v.before + 64) + 32 * (k * k)

  -- an odd element alone
  alone : (k i r : ℕ) → i % 2 ≡ suc r → Bounded k i i
  alone k i r e = let t = tz_odd 63 i r e in record { few = rw after_end zero-le; short = rw path_end (omega arith) }

  bound_step : (k : ℕ) → ((i n : ℕ) → 1 ≤ i → i ≤ n → n < 2 ^ suc k → Bounded k i n)
      → (i n : ℕ) → suc (suc k) ≤ 64 → 1 ≤ i → i ≤ n → n < 2 ^ suc (suc k) → Bounded (suc k) i n
  unfolding path
  bound_step k ih i n w lo hi top = go (i % 2) refl (dec_lt i n)
    where
      even : (a : ℕ) → 1 ≤ a → a ≤ n / 2
          → (length (path_after (a * 2) n) ≤ 2 * k + 1) × (total v (path (a * 2) n) ≤ (2 * k + 2) * (v.before + 64) + 32 * (suc k * suc k))
      even a l h =
          let b = ih a (n / 2) l h (let e = pow-suc 2 (suc k) in omega arith) in
          let d = double_bound a n (le_trans top (pow_mono w)) h in
          let t = tz_dbl 63 a in
          (omega (arith, d.0, b.few), omega (arith, d.1, b.few, b.short))

      go : (r : ℕ) → i % 2 ≡ r → Dec (i < n) → Bounded (suc k) i n
      go zero e d =
          let b : i / 2 * 2 ≡ i = omega arith in
          let g = even (i / 2) (omega arith) (omega arith) in
          subst (λ x. Bounded (suc k) x n) b (record { few = omega (arith, g.0); short = omega (arith, g.1) })
      go (suc r) e (yes d) =
          let b : suc i ≡ suc i / 2 * 2 = omega arith in
          let g = even (suc i / 2) (omega arith) (omega arith) in
          let t = tz_odd 63 i r e in
          let o : i % 2 ≡ 1 = omega arith in
          let p : path_after i n ≡ path (suc i / 2 * 2) n = one_hop i n d (inl o) ∙ ap (λ (x : ℕ). path x n) b in
          let y = ap (total v) p in
          let z = ap length p in
          record { few = omega (arith, g.0); short = omega (arith, g.1) }
      go (suc r) e (no d) = let b : i ≡ n = omega arith in rw (← b) (alone (suc k) i r e)

  -- So it is, by induction over the levels,
  pub path_bound : (k i n : ℕ) → suc k ≤ 64 → 1 ≤ i → i ≤ n → n < 2 ^ suc k → Bounded k i n
  path_bound zero i n w lo hi top =
      let a : i ≡ 1 = omega arith in
      let b : n ≡ 1 = omega arith in
      rw (a, b) (alone 0 1 0 refl)
  path_bound (suc k) i n w lo hi top = bound_step k (λ i n. path_bound k i n (omega arith)) i n w lo hi top

  -- and a path from the start to a number of k levels has at most k hops and these bytes.
  pub start_bound : (k n : ℕ) → k ≤ 64 → n < 2 ^ k → (length (path_after 0 n) ≤ k) × (total v (path_after 0 n) ≤ k * (v.before + 48) + 16 * (k * k))
  start_bound zero n w top = let b : n ≡ 0 = omega arith in rw (b, after_end) (zero-le, zero-le)
  start_bound (suc k) n w top =
      let r = start_bound k (n / 2) (omega arith) (let e = pow-suc 2 k in omega arith) in
      let d = double_bound 0 n (le_trans top (pow_mono w)) zero-le in
      (omega (arith, r.0, d.0), omega (arith, r.0, r.1, d.1))

-- ---- the bounds are reached, by the path from 1 and the path from 0 to the last number of k levels

-- A double has one trailing zero more, where 64 bits hold it.
tz_double : (j : ℕ) → 1 ≤ j → j < 2 ^ 63 → tz (j * 2) ≡ suc (tz j)
tz_double j lo hi =
    let few = level_below (tz j) 63 j (tz_power j lo) hi in
    let two : j * 2 % 2 ^ suc (tz j) ≡ 0 = join_mod (j * 2) (tz j) (mul-mod_left j 2) (rw (mul-div_cancel j (zero-lt-suc 1)) (tz_divides 64 j)) in
    le_antisymm (tz_dbl 63 j) (tz_max 64 (j * 2) (suc (tz j)) (omega arith) two)

-- the last number of suc k levels is odd, and its half is that of k levels
last_half : (k : ℕ) → ((2 ^ suc k - 1) / 2 ≡ 2 ^ k - 1) × ((2 ^ suc k - 1) % 2 ≡ 1) × (2 ^ suc k - 1 < 2 ^ suc k)
last_half k = let two = pow-suc 2 k in let pos = pow_pos k in (omega arith, omega arith, omega arith)

module _ (v : Version) where
  -- each component of a path grows by a link, at twice the size
  total_double : (a m : ℕ) → m < 2 ^ 63 → a ≤ m → total v (map dbl (path_after a m)) ≡ total v (path_after a m) + 32 * length (path_after a m)
  total_double a m h k = hops_ind (λ a ls. total v (map dbl (after a ls)) ≡ total v (after a ls) + 32 * length (after a ls)) m refl step a k
    where
      step : (i l : ℕ) (ls : List ℕ) → Best i m l → total v (map dbl (after (i + 2 ^ l) ls)) ≡ total v (after (i + 2 ^ l) ls) + 32 * length (after (i + 2 ^ l) ls)
          → total v (map dbl (after i (l ∷ ls))) ≡ total v (after i (l ∷ ls)) + 32 * length (after i (l ∷ ls))
      step i l ls b r =
          let pos = pow_pos l in
          let t = tz_double (i + 2 ^ l) (omega arith) (omega (arith, b.hop.reaches)) in
          omega arith

  -- from an even number to the last one of suc k levels: the path to that of k levels, doubled, and the last number
  double_last : (a k : ℕ) → suc k ≤ 64 → a ≤ 2 ^ k - 1 →
      let js = path_after a (2 ^ k - 1) in
      (length (path_after (a * 2) (2 ^ suc k - 1)) ≡ length js + 1)
      × (total v (path_after (a * 2) (2 ^ suc k - 1)) ≡ total v js + 32 * length js + (v.before + 64))
  double_last a k w h =
      let n = 2 ^ suc k - 1 in
      let js = path_after a (2 ^ k - 1) in
      let p = last_half k in
      let most = pow_mono w in
      let half = pow-suc 2 63 in
      let up = pow_mono (le_of_suc-le-suc w) in
      let pos = pow_pos k in
      let e : path_after (a * 2) n ≡ map dbl js ++ (n ∷ []) =
      double_after a n (omega (arith, p.2)) (rw p.0 h) ∙ rw (p.0, p.1) in
      let d = total_double a (2 ^ k - 1) (omega arith) h in
      let s = total_append v (map dbl js) (n ∷ []) in
      let f = length-append (map dbl js) (n ∷ []) in
      let g = length-map js dbl in
      let t = tz_odd 63 n 0 p.1 in
      rw e (omega arith, omega arith)

  -- From 1 to the last number of suc k levels there are 2 k hops, and behind the first component so many bytes.
  pub path_reached : (k : ℕ) → suc k ≤ 64 →
      (length (path_after 1 (2 ^ suc k - 1)) ≡ 2 * k) × (total v (path_after 1 (2 ^ suc k - 1)) ≡ 2 * k * (v.before + 64) + 32 * (k * k))
  unfolding path count_trailing_zeros
  path_reached zero w = rw (after_end 1) (omega arith, omega arith)
  path_reached (suc k) w =
      let n = 2 ^ suc (suc k) - 1 in
      let r = path_reached k (omega arith) in
      let two = pow-suc 2 (suc k) in
      let four = pow-suc 2 k in
      let pos = pow_pos k in
      let d = double_last 1 (suc k) w (omega arith) in
      let e : path_after 1 n ≡ 2 ∷ path_after (1 * 2) n = one_hop 1 n (omega arith) (inl refl) in
      let t : tz 2 ≡ 1 = refl in
      rw e (omega (arith, r.0, d.0), omega (arith, r.0, r.1, d.1))

  -- From 0 there are k hops to the last number of k levels.
  pub start_reached : (k : ℕ) → k ≤ 64 →
      (length (path_after 0 (2 ^ k - 1)) ≡ k) × (total v (path_after 0 (2 ^ k - 1)) ≡ k * (v.before + 48) + 16 * (k * k))
  start_reached zero w = rw (after_end 0) (omega arith, omega arith)
  start_reached (suc k) w =
      let r = start_reached k (omega arith) in
      let d = double_last 0 k w zero-le in
      (omega (arith, r.0, d.0), omega (arith, r.0, r.1, d.1))
