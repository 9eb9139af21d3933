-- 01, "What a practice holds": checking membership and advancement, for any hash H. "Checks run in number order, but 9 and 10 go hop by
-- hop, the first bad hop deciding." And 02, A5: where a proof broke.
use Rattle.std.specs.Prelude.{Bool, true, false, cond, ◌&&◌, List, [], ◌∷◌, ◌++◌, ℕ, suc, ◌+◌, ◌/◌, ◌^◌, leb, eqb, length, take, drop}
use Rattle.lists.specs.Bytes.{Bytes, same, zeros}
use Rattle.rules.specs.Numbers.{Version, entry_limit, limit}
use Rattle.rules.specs.Paths.{hops, path, path_after}
use Rattle.rules.specs.Messages.{entry_msg, element_msg, size, total, row, part}
use Rattle.rules.specs.Refusals.{state_broken, too_long, no_such_number, wrong_length, other_entry, row_differs, link_differs, digest_differs}
use Rattle.rules.specs.Held.{Held, odd, is_in_order}

-- 02, A5: "Refusals 9 and 10 in 01 gain these two numbers: the element reached, and the row for 9 or the level hopped for 10."
pub record Place : Type 0 where
  pub element : ℕ
  pub level : ℕ

abbrev pub place : ℕ → ℕ → Place
place j l = record { element = j; level = l }

-- "All other refusals, 13 too, show 0 there."
abbrev pub nowhere : Place
nowhere = place 0 0

-- "The verdict, for advancing too, carries the number of hops found good"
pub data Verdict (A : Type 0) : Type 0 where
  accepted : A → Verdict A
  refused : ℕ → ℕ → Place → Verdict A  -- the number, the hops found good, the place

module _ {A : Type 0} where
  -- a check at a place: where it fails, its number, the hops found good before it, and the place
  abbrev pub must_at : Place → Bool → ℕ → ℕ → Verdict A → Verdict A
  must_at w true num k x = x
  must_at w false num k x = refused num k w

  -- a check whose refusal shows no place
  abbrev pub must : Bool → ℕ → ℕ → Verdict A → Verdict A
  must b num k x = must_at nowhere b num k x

  abbrev pub is_accepted : Verdict A → Bool
  is_accepted (accepted x) = true
  is_accepted (refused num k w) = false

-- what is not "i = 0, i > n, or n over the limit"
abbrev pub between : Version → ℕ → ℕ → Bool
between v i n = leb 1 i && (leb i n && leb n (limit v))

-- what is not "n < i or n over the limit"
abbrev pub upward : Version → ℕ → ℕ → Bool
upward v i n = leb i n && leb n (limit v)

module _ (H : Bytes → Bytes) (v : Version) where
  -- the digest of element j that the component at o in p gives
  abbrev pub digest_at : Bytes → ℕ → ℕ → Bytes
  digest_at p o j = H (element_msg j (part v p o j))

  -- ---- membership

  -- from j with digest t, by hops of the levels ls, with the next component at o; k hops are good so far. "each next component's link of the
  -- level hopped must equal the digest computed before it, and the last computed must be the one given"
  unfoldable pub walk : ℕ → Bytes → List ℕ → Bytes → ℕ → Bytes → ℕ → Verdict ℕ
  walk j t [] p o D k = must (same t D) digest_differs k (accepted k)
  walk j t (l ∷ ls) p o D k =
      must_at (place (j + 2 ^ l) l) (same (row v (part v p o (j + 2 ^ l)) (suc l)) t) link_differs k
      (walk (j + 2 ^ l) (digest_at p o (j + 2 ^ l)) ls p (o + size v (j + 2 ^ l)) D (suc k))

  -- "Checking membership takes entry, i, n, digest and proof. The first d must be the entry's"
  unfoldable pub member : Bytes → ℕ → ℕ → Bytes → Bytes → Verdict ℕ
  member e i n D p =
      must (leb (length e) entry_limit) too_long 0
      (must (between v i n) no_such_number 0
      (must (eqb (length p) (total v (path i n))) wrong_length 0
      (must (same (row v (part v p 0 i) 0) (H (entry_msg e))) other_entry 0
      (walk i (digest_at p 0 i) (hops i n) p (size v i) D 0))))

-- ---- a hop of level l from j, on the rows from level l up; q = j / 2 ^ l, so that its lowest bit tells whether the first row is in use

-- "from c = l upward while row c is in use, row c must equal the component's link of level c + 1": row c + 2 of the component x
unfoldable pub agrees : Version → ℕ → ℕ → List Bytes → Bytes → Bool
agrees v c q [] x = true
agrees v c q (r ∷ rs) x = cond (odd q) (same r (row v x (suc (suc c))) && agrees v (suc c) (q / 2) rs x) true

-- the row that refusal 9 names: the lowest from c up that is not that link. Where the rows do not agree it is in use, and so is each below it.
unfoldable pub off_row : Version → ℕ → List Bytes → Bytes → ℕ
off_row v c [] x = c
off_row v c (r ∷ rs) x = cond (same r (row v x (suc (suc c)))) (off_row v (suc c) rs x) c

-- "If row l is free it takes T(j). Otherwise .. the last such value moves to the first free row and the others become zero."
unfoldable pub carried : ℕ → List Bytes → Bytes → List Bytes
carried q [] t = []
carried q (r ∷ rs) t = cond (odd q) (zeros ∷ carried (q / 2) rs r) (t ∷ rs)

-- the rows below the level hopped stay
abbrev pub rows_after : ℕ → Held → List Bytes
rows_after l h = take l h.rows ++ carried (h.count / 2 ^ l) (drop l h.rows) h.digest

module _ (H : Bytes → Bytes) (v : Version) where
  -- the state after a good hop of level l, whose component stands at o in p
  abbrev pub hopped : Held → ℕ → Bytes → ℕ → Held
  hopped h l p o =
      let to = h.count + 2 ^ l in
      record { log = h.log; count = to; digest = digest_at H v p o to; rows = rows_after l h }

  -- ---- advancement: "Then the component's link of level l must equal T(j). .. The last digest computed must be the one claimed."

  unfoldable pub advance_walk : Held → List ℕ → Bytes → ℕ → Bytes → ℕ → Verdict (ℕ × Held)
  advance_walk h [] p o D k = must (same h.digest D) digest_differs k (accepted (k, h))
  advance_walk h (l ∷ ls) p o D k =
      let to = h.count + 2 ^ l in
      must_at (place to (off_row v l (drop l h.rows) (part v p o to))) (agrees v l (h.count / 2 ^ l) (drop l h.rows) (part v p o to)) row_differs k
      (must_at (place to l) (same (row v (part v p o to) (suc l)) h.digest) link_differs k
      (advance_walk (hopped h l p o) ls p (o + size v to) D (suc k)))

  unfoldable pub advance : Held → ℕ → Bytes → Bytes → Verdict (ℕ × Held)
  advance h n D p =
      must (is_in_order H v h) state_broken 0
      (must (upward v h.count n) no_such_number 0
      (must (eqb (length p) (total v (path_after h.count n))) wrong_length 0
      (advance_walk h (hops h.count n) p 0 D 0)))
