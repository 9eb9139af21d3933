-- What acceptance says, for any hash H: the checks that passed, that the hops are the path's, and the state that is handed back.
use Rattle.std.specs.Prelude.{◌≡◌, refl, ◌&&◌, ◌||◌, ℕ, suc, ◌+◌, ◌-◌, ◌/◌, ◌%◌, ◌^◌, ◌≤◌, ◌<◌, length, get_or, drop}
use Rattle.std.proofs.Common.{sym, ap, ◌∙◌, zero-add, arith, add-one, length-drop, get_or-drop}
use Rattle.std.proofs.Math.Bool.{true, and-eq-true_iff}
use mathlib.Core.List.{List, [], ◌∷◌}
use Rattle.std.proofs.Math.Nat.{zero-div, add-div_right}
use Rattle.std.proofs.Math.Dec.{leb}
use Rattle.std.proofs.Math.Pow.{pow_pos, field}
use borrow.Author.Tests.{eqb-true, leb-true, le-leb}
use Rattle.lists.specs.Bytes.{Bytes, same}
use Rattle.lists.specs.Same.{same_true}
use Rattle.rules.specs.Numbers.{Version, entry_limit, limit}
use Rattle.rules.specs.Paths.{level, hops, path, path_after}
use Rattle.rules.specs.Messages.{start_msg, entry_msg, size, total, row, part}
use Rattle.rules.specs.Refusals.{state_broken, too_long, no_such_number, wrong_length, other_entry, row_differs, link_differs, digest_differs}
use Rattle.rules.specs.Held.{Held, free_zero, is_in_order}
use Rattle.rules.specs.Checking.{accepted, between, upward, digest_at, walk, member, agrees, hopped, advance_walk, advance}
use Rattle.rules.proofs.Verdicts.{must_at_accepted, must_accepted, upward_true}
use Rattle.rules.proofs.Hops.{hops_step, end, Rides, hops_ride}
use Rattle.rules.proofs.Carrying.{rows_checked, rows_after_length, rows_after_free}

module _ (H : Bytes → Bytes) (v : Version) where
  -- ---- an accepted membership proof

  -- the checks that it passed
  pub record Accepts (e : Bytes) (i n : ℕ) (D p : Bytes) (m : ℕ) : Type 0 where
    pub entry_fits : length e ≤ entry_limit
    pub between : between v i n ≡ true
    pub sized : length p ≡ total v (path i n)
    pub first : row v (part v p 0 i) 0 ≡ H (entry_msg e)
    pub walked : walk H v i (digest_at H v p 0 i) (hops i n) p (size v i) D 0 ≡ accepted m

  -- Where membership is accepted, each check passed.
  pub accepts : (e : Bytes) (i n : ℕ) (D p : Bytes) (m : ℕ) → member H v e i n D p ≡ accepted m → Accepts e i n D p m
  unfolding member
  accepts e i n D p m h =
      let a = must_accepted _ too_long 0 m _ h in
      let b = must_accepted _ no_such_number 0 m _ a.1 in
      let c = must_accepted _ wrong_length 0 m _ b.1 in
      let d = must_accepted _ other_entry 0 m _ c.1 in
      record {
        entry_fits = leb-true (length e) entry_limit a.0;
        between = b.0;
        sized = eqb-true (length p) (total v (path i n)) c.0;
        first = same_true _ _ d.0;
        walked = d.1;
      }

  -- Where a walk is accepted at its end, the digest there is the one given, and the hops are those found good.
  pub walk_ended : (j : ℕ) (t p : Bytes) (o : ℕ) (D : Bytes) (k m : ℕ) → walk H v j t [] p o D k ≡ accepted m → (t ≡ D) × (k ≡ m)
  unfolding walk
  walk_ended j t p o D k m h = let a = must_accepted (same t D) digest_differs k m _ h in (same_true t D a.0, cc a.1)

  -- Where a walk is accepted, the link of its next hop is the digest before it, and the walk from there is accepted.
  pub walk_hopped : (j : ℕ) (t : Bytes) (l : ℕ) (ls : List ℕ) (p : Bytes) (o : ℕ) (D : Bytes) (k m : ℕ) → walk H v j t (l ∷ ls) p o D k ≡ accepted m →
      let i = j + 2 ^ l in
      (row v (part v p o i) (suc l) ≡ t) × (walk H v i (digest_at H v p o i) ls p (o + size v i) D (suc k) ≡ accepted m)
  unfolding walk
  walk_hopped j t l ls p o D k m h =
      let a = must_at_accepted _ (same (row v (part v p o (j + 2 ^ l)) (suc l)) t) link_differs k m _ h in (same_true (row v (part v p o (j + 2 ^ l)) (suc l)) t a.0, a.1)

  walk_count : (ls : List ℕ) (j : ℕ) (t p D : Bytes) (o k m : ℕ) → walk H v j t ls p o D k ≡ accepted m → m ≡ k + length ls
  walk_count [] j t p D o k m h = let a = (walk_ended j t p o D k m h).1 in omega arith
  walk_count (l ∷ ls) j t p D o k m h =
      let i = j + 2 ^ l in
      let r = walk_count ls i (digest_at H v p o i) p D (o + size v i) (suc k) m (walk_hopped j t l ls p o D k m h).1 in omega arith

  -- "which equals the path's hops when accepted"
  pub member_hops : (e : Bytes) (i n : ℕ) (D p : Bytes) (m : ℕ) → member H v e i n D p ≡ accepted m → m ≡ length (hops i n)
  member_hops e i n D p m h = walk_count (hops i n) i (digest_at H v p 0 i) p D (size v i) 0 m (accepts e i n D p m h).walked ∙ zero-add (length (hops i n))

  -- ---- an accepted advancement

  -- the checks that it passed
  pub record Advances (h : Held) (n : ℕ) (D p : Bytes) (m : ℕ × Held) : Type 0 where
    pub in_order : is_in_order H v h ≡ true
    pub upward : upward v h.count n ≡ true
    pub sized : length p ≡ total v (path_after h.count n)
    pub walked : advance_walk H v h (hops h.count n) p 0 D 0 ≡ accepted m

  -- Where an advancement is accepted, each check passed.
  pub advances : (h : Held) (n : ℕ) (D p : Bytes) (m : ℕ × Held) → advance H v h n D p ≡ accepted m → Advances h n D p m
  unfolding advance
  advances h n D p m e =
      let a = must_accepted _ state_broken 0 m _ e in
      let b = must_accepted _ no_such_number 0 m _ a.1 in
      let c = must_accepted _ wrong_length 0 m _ b.1 in
      record { in_order = a.0; upward = b.0; sized = eqb-true (length p) (total v (path_after h.count n)) c.0; walked = c.1 }

  -- what an accepted walk found at its next hop, of level l, whose component stands at o
  pub record Good (h : Held) (l : ℕ) (ls : List ℕ) (p : Bytes) (o : ℕ) (D : Bytes) (k : ℕ) (m : ℕ × Held) : Type 0 where
    pub rows : agrees v l (h.count / 2 ^ l) (drop l h.rows) (part v p o (h.count + 2 ^ l)) ≡ true
    pub link : row v (part v p o (h.count + 2 ^ l)) (suc l) ≡ h.digest
    pub rest : advance_walk H v (hopped H v h l p o) ls p (o + size v (h.count + 2 ^ l)) D (suc k) ≡ accepted m

  -- Where a walk is accepted, its next hop is good and the walk from there is accepted.
  pub good_hop : (h : Held) (l : ℕ) (ls : List ℕ) (p : Bytes) (o : ℕ) (D : Bytes) (k : ℕ) (m : ℕ × Held) → advance_walk H v h (l ∷ ls) p o D k ≡ accepted m → Good h l ls p o D k m
  unfolding advance_walk
  good_hop h l ls p o D k m e =
      let to = h.count + 2 ^ l in
      let a = must_at_accepted _ (agrees v l (h.count / 2 ^ l) (drop l h.rows) (part v p o to)) row_differs k m _ e in
      let b = must_at_accepted _ (same (row v (part v p o to) (suc l)) h.digest) link_differs k m _ a.1 in
      record { rows = a.0; link = same_true _ _ b.0; rest = b.1 }

  -- what is handed back by a walk of s hops to the number n
  pub record Arrived (h : Held) (n s : ℕ) (D : Bytes) (m : ℕ × Held) : Type 0 where
    pub hops : m.0 ≡ s
    pub count : m.1.count ≡ n
    pub digest : m.1.digest ≡ D
    pub log : m.1.log ≡ h.log
    pub rows : length m.1.rows ≡ length h.rows
    pub free : free_zero h.count h.rows ≡ true → free_zero n m.1.rows ≡ true
    pub begun : (t : Bytes) → (leb 1 h.count || same h.digest t) ≡ true → (leb 1 n || same m.1.digest t) ≡ true

  arrives : (ls : List ℕ) (h : Held) (p D : Bytes) (o k : ℕ) (m : ℕ × Held) → Rides h.count ls → advance_walk H v h ls p o D k ≡ accepted m
      → Arrived h (end h.count ls) (k + length ls) D m
  unfolding advance_walk
  arrives [] h p D o k m d e =
      let a = must_accepted (same h.digest D) digest_differs k m (accepted (k, h)) e in
      let q : (k, h) ≡ m = cc a.1 in
      rw (← q) (record { hops = omega arith; count = refl; digest = same_true h.digest D a.0; log = refl; rows = refl; free = λ f. f; begun = λ t b. b })
  arrives (l ∷ ls) h p D o k m d e =
      let g = good_hop h l ls p o D k m e in
      let pos = pow_pos l in
      let up : leb 1 (h.count + 2 ^ l) ≡ true = le-leb 1 (h.count + 2 ^ l) (omega arith) in
      let r = arrives ls (hopped H v h l p o) p D (o + size v (h.count + 2 ^ l)) (suc k) m d.2 g.rest in
      record {
        hops = omega (arith, r.hops);
        count = r.count;
        digest = r.digest;
        log = r.log;
        rows = r.rows ∙ rows_after_length h l;
        free = λ f. r.free (rows_after_free h l d.1 f);
        begun = λ t b. r.begun t (rw up);
      }

  module _ (h : Held) (n : ℕ) (D p : Bytes) (m : ℕ × Held) (e : advance H v h n D p ≡ accepted m) where
    -- An accepted advancement hands back the path's hops, and a state of the same log at n with the digest that was claimed.
    pub arrived : Arrived h n (length (hops h.count n)) D m
    arrived =
        let a = advances h n D p m e in
        let ride = hops_ride h.count n (upward_true v h.count n a.upward).0 in
        let r = arrives (hops h.count n) h p D 0 0 m ride.0 a.walked in
        rw (zero-add, ride.1) at r

    -- "which equals the path's hops when accepted"
    pub advance_hops : m.0 ≡ length (hops h.count n)
    advance_hops = arrived.hops

    -- That state is in order, so it can be advanced again.
    pub advance_in_order : is_in_order H v m.1 ≡ true
    unfolding is_in_order
    advance_in_order =
        let a = advances h n D p m e in
        let r = arrived in
        let start = H (start_msg v h.log) in
        let x = (and-eq-true_iff (leb h.count (limit v)) (free_zero h.count h.rows && (leb 1 h.count || same h.digest start))).0 a.in_order in
        let y = (and-eq-true_iff (free_zero h.count h.rows) (leb 1 h.count || same h.digest start)).0 x.1 in
        rw (r.count, r.log)
        ((and-eq-true_iff _ _).1 (le-leb n (limit v) (upward_true v h.count n a.upward).1, (and-eq-true_iff _ _).1 (r.free y.0, r.begun start y.1)))

    -- "row c must equal the component's link of level c + 1": so it does for each row held that the first hop passes, which are those from its level up
    -- whose next power divides the element reached.
    pub advance_rows : h.count < n →
        let l = level h.count n in
        let to = h.count + 2 ^ l in
        (c : ℕ) → l ≤ c → c < length h.rows → to % 2 ^ suc c ≡ 0 → get_or h.rows c [] ≡ row v (part v p 0 to) (suc (suc c))
    advance_rows b c lc cr d =
        let l = level h.count n in
        let to = h.count + 2 ^ l in
        let a = advances h n D p m e in
        let g = good_hop h l (hops to n) p 0 D 0 m (rw (hops_step h.count n b) at a.walked) in
        let s : suc (c - l) + l ≡ suc c = omega arith in
        let t : l + (c - l) ≡ c = omega arith in
        let q : suc (h.count / 2 ^ l) % 2 ^ suc (c - l) ≡ 0 =
        ap (λ (x : ℕ). x % 2 ^ suc (c - l)) (sym (add-div_right h.count (pow_pos l) ∙ add-one (h.count / 2 ^ l)))
        ∙ sym (field to (suc (c - l)) l) ∙ ap (λ (x : ℕ). to % 2 ^ x / 2 ^ l) s ∙ ap (λ (x : ℕ). x / 2 ^ l) d ∙ zero-div (2 ^ l) in
        ap (λ (x : ℕ). get_or h.rows x []) (sym t)
        ∙ sym (get_or-drop l h.rows (c - l) [])
        ∙ rows_checked v (part v p 0 to) (drop l h.rows) l (h.count / 2 ^ l) (c - l) g.rows q (simp length-drop (omega arith))
        ∙ ap (λ (x : ℕ). row v (part v p 0 to) (suc (suc x))) t
