-- One hop on the rows of any state, made up or not: what the comparison with a component found good, and what the carry leaves.
use Rattle.std.specs.Prelude.{◌≡◌, refl, ◌≢◌, ◌⊎◌, Bool, true, false, cond, ◌&&◌, ◌||◌, List, [], ◌∷◌, ◌++◌, ℕ, zero, suc, ◌+◌, ◌/◌, ◌%◌, ◌^◌, ◌≤◌, ◌<◌, length, get_or, take, drop}
use Rattle.std.proofs.Common.{sym, ap, ◌∙◌, inl, inr, true≢false, le_of_suc-le-suc, add-zero, div-one, pow-suc, arith, add-one, length-append, take-append-drop, eq-eqb, ne_eqb}
use Rattle.std.proofs.Math.Bool.{and-eq-true_iff}
use Rattle.lists.specs.Bytes.{Bytes, same, zeros}
use Rattle.lists.specs.Same.{same_true, same_false}
use Rattle.rules.specs.Numbers.{Version}
use Rattle.rules.specs.Messages.{row}
use Rattle.rules.specs.Held.{Held, odd, free_zero}
use Rattle.rules.specs.Checking.{agrees, off_row, carried, rows_after}
use Rattle.rules.proofs.Hops.{split_mod}
use Rattle.rules.proofs.Parity.{half_first, Odd, Even, is_odd, parity}

-- ---- the comparison

-- Where rows agree with a component x, each row in use on the way is x's link of the next level: the row of level c + m, if the lowest m + 1 bits of q
-- are ones.
pub rows_checked : (v : Version) (x : Bytes) (rs : List Bytes) (c q m : ℕ) → agrees v c q rs x ≡ true → suc q % 2 ^ suc m ≡ 0 → m < length rs
    → get_or rs m [] ≡ row v x (suc (suc (c + m)))
unfolding agrees
rows_checked v x [] c q m a d h = absurd (omega arith)
rows_checked v x (r ∷ rs) c q m a d h = go m (split_mod (suc q) m d) h (rows_checked v x rs (suc c) (q / 2))
  where
    used : suc q % 2 ≡ 0 → odd q ≡ true
    used e = eq-eqb (q % 2) 1 (omega arith)

    good : suc q % 2 ≡ 0 → (same r (row v x (suc (suc c))) ≡ true) × (agrees v (suc c) (q / 2) rs x ≡ true)
    good e = (and-eq-true_iff (same r (row v x (suc (suc c)))) (agrees v (suc c) (q / 2) rs x)).0 (rw (used e) at a)

    go : (m : ℕ) → (suc q % 2 ≡ 0) × (suc q / 2 % 2 ^ m ≡ 0) → m < suc (length rs)
        → ((m : ℕ) → agrees v (suc c) (q / 2) rs x ≡ true → suc (q / 2) % 2 ^ suc m ≡ 0 → m < length rs → get_or rs m [] ≡ row v x (suc (suc (suc c + m))))
        → get_or (r ∷ rs) m [] ≡ row v x (suc (suc (c + m)))
    go zero d h ih = rw add-zero (same_true r (row v x (suc (suc c))) (good d.0).0)
    go (suc m) d h ih =
        let e : suc q / 2 ≡ suc (q / 2) = (is_odd q (used d.0)).half in
        ih m (good d.0).1 (rw e at d.1) (le_of_suc-le-suc h) ∙ ap (λ (k : ℕ). row v x (suc (suc k))) (let f : suc c + m ≡ c + suc m = omega arith in f)

-- what a comparison that fails found: row c + m is the lowest that differs, and it is in use, as each row is that was compared before it
pub record Off (v : Version) (x : Bytes) (c q : ℕ) (rs : List Bytes) (m : ℕ) : Type 0 where
  pub there : m < length rs
  pub used : (b : ℕ) → b ≤ m → odd (q / 2 ^ b) ≡ true
  pub differs : get_or rs m [] ≢ row v x (suc (suc (c + m)))
  pub before : (b : ℕ) → b < m → get_or rs b [] ≡ row v x (suc (suc (c + b)))

-- Where rows do not agree with a component, the row that is named is such a one.
pub off_row_lem : (v : Version) (x : Bytes) (rs : List Bytes) (c q : ℕ) → agrees v c q rs x ≡ false → (m : ℕ) × (off_row v c rs x ≡ c + m) × Off v x c q rs m
unfolding agrees off_row
off_row_lem v x [] c q a = absurd (true≢false a)
off_row_lem v x (r ∷ rs) c q a = go (odd q) (same r link) refl refl a (off_row_lem v x rs (suc c) (q / 2))
  where
    link : Bytes
    link = row v x (suc (suc c))

    -- the number of a row, counted from the row behind the first
    shift : (m : ℕ) → suc c + m ≡ c + suc m
    shift m = omega arith

    -- the bits and the rows, the first and those behind it
    bits : (m : ℕ) → odd q ≡ true → ((b : ℕ) → b < m → odd (q / 2 / 2 ^ b) ≡ true) → (b : ℕ) → b ≤ m → odd (q / 2 ^ b) ≡ true
    bits m o f zero h = rw div-one o
    bits m o f (suc b) h = rw (half_first q b) (f b h)

    below : (m : ℕ) → r ≡ link → ((b : ℕ) → b < m → get_or rs b [] ≡ row v x (suc (suc (suc c + b)))) → (b : ℕ) → b < suc m → get_or (r ∷ rs) b [] ≡ row v x (suc (suc (c + b)))
    below m e f zero h = rw add-zero e
    below m e f (suc b) h = f b (le_of_suc-le-suc h) ∙ ap (λ (k : ℕ). row v x (suc (suc k))) (shift b)

    go : (u t : Bool) → odd q ≡ u → same r link ≡ t → cond u (t && agrees v (suc c) (q / 2) rs x) true ≡ false
        → (agrees v (suc c) (q / 2) rs x ≡ false → (m : ℕ) × (off_row v (suc c) rs x ≡ suc c + m) × Off v x (suc c) (q / 2) rs m)
        → (m : ℕ) × (cond t (off_row v (suc c) rs x) c ≡ c + m) × Off v x c q (r ∷ rs) m
    go false t o e a ih = absurd (true≢false a)
    go true false o e a ih = (
      0,
      sym (add-zero c),
      record {
        there = omega arith;
        used = bits 0 o (λ b h. absurd (omega arith));
        differs = λ d. same_false r link e (d ∙ ap (λ (k : ℕ). row v x (suc (suc k))) (add-zero c));
        before = λ b h. absurd (omega arith);
      },
    )
    go true true o e a ih =
        let w = ih a in
        let m = w.0 in
        let f = w.2 in (
          suc m,
          w.1 ∙ shift m,
          record {
            there = omega (arith, f.there);
            used = bits (suc m) o (λ b h. f.used b (le_of_suc-le-suc h));
            differs = λ d. f.differs (d ∙ ap (λ (k : ℕ). row v x (suc (suc k))) (sym (shift m)));
            before = below m (same_true r link e) f.before;
          },
        )

-- ---- the carry

-- A carry keeps the number of rows.
pub carried_length : (rs : List Bytes) (q : ℕ) (t : Bytes) → length (carried q rs t) ≡ length rs
unfolding carried
carried_length [] q t = refl
carried_length (r ∷ rs) q t = go (parity q) (carried_length rs (q / 2))
  where
    go : Odd q ⊎ Even q → ((x : Bytes) → length (carried (q / 2) rs x) ≡ length rs) → length (carried q (r ∷ rs) t) ≡ suc (length rs)
    go (inl h) ih = rw h.here (ap suc (ih _))
    go (inr h) ih = rw h.here

-- Where the free rows of q are zero, so are those of suc q after a carry.
pub carried_free : (rs : List Bytes) (q : ℕ) (t : Bytes) → free_zero q rs ≡ true → free_zero (suc q) (carried q rs t) ≡ true
unfolding carried free_zero
carried_free [] q t f = refl
carried_free (r ∷ rs) q t f = go (parity q) (λ x. carried_free rs (q / 2) x rest)
  where
    rest : free_zero (q / 2) rs ≡ true
    rest = ((and-eq-true_iff (odd q || same r zeros) (free_zero (q / 2) rs)).0 f).1

    go : Odd q ⊎ Even q → ((x : Bytes) → free_zero (suc (q / 2)) (carried (q / 2) rs x) ≡ true) → free_zero (suc q) (carried q (r ∷ rs) t) ≡ true
    go (inl h) ih = rw (h.here, h.next, h.half) (ih _)
    go (inr h) ih = rw (h.here, h.next, h.half) rest

-- ---- the whole hop, of level l from j

free_after : (l j : ℕ) (rs : List Bytes) (t : Bytes) → j % 2 ^ l ≡ 0 → free_zero j rs ≡ true → free_zero (j + 2 ^ l) (take l rs ++ carried (j / 2 ^ l) (drop l rs) t) ≡ true
unfolding free_zero carried
free_after zero j rs t d f = rw (div-one, add-one) (carried_free rs j t f)
free_after (suc l) j [] t d f = refl
free_after (suc l) j (r ∷ rs) t d f =
    let two = pow-suc 2 l in
    let s = split_mod j l d in
    let here : odd j ≡ false = ne_eqb (j % 2) 1 (λ e. omega (arith, s.0)) in
    let there : odd (j + 2 ^ suc l) ≡ false = ne_eqb ((j + 2 ^ suc l) % 2) 1 (λ e. omega (arith, s.0)) in
    let half : (j + 2 ^ suc l) / 2 ≡ j / 2 + 2 ^ l = omega arith in
    let g = (and-eq-true_iff (odd j || same r zeros) (free_zero (j / 2) rs)).0 f in
    let z : same r zeros ≡ true = rw here at g.0 in
    rw (there, z, half, half_first) (free_after l (j / 2) rs t s.1 g.1)

module _ (h : Held) (l : ℕ) where
  -- A hop keeps the number of rows.
  pub rows_after_length : length (rows_after l h) ≡ length h.rows
  rows_after_length = simp (length-append, carried_length) (sym (length-append (take l h.rows) (drop l h.rows)) ∙ ap length (take-append-drop l h.rows))

  -- Where the free rows at the count are zero, so are those at the end of a hop, if the hop's power divides the count.
  pub rows_after_free : h.count % 2 ^ l ≡ 0 → free_zero h.count h.rows ≡ true → free_zero (h.count + 2 ^ l) (rows_after l h) ≡ true
  rows_after_free = free_after l h.count h.rows h.digest
