-- One turn of each loop over the rows, at row c, and the loop's end. q tells by its lowest bit whether row c is in use.
use mathlib.Core.Path.{◌≡◌, refl, sym, ap, ap₂, ◌∙◌}
use mathlib.Core.Bool.{Bool, true, false, cond, ◌&&◌, ◌||◌}
use mathlib.Core.List.{List, [], ◌∷◌, ◌++◌, append-nil}
use Prim.Native.Nat.{ℕ, suc, min, ◌+◌, ◌-◌, ◌*◌, ◌/◌, ◌%◌, ◌^◌, ◌≤◌, ◌<◌}
use native.Mathlib.Nat.{div-add-mod', mul-mod_left, zero-add, div-one}
use native.Mathlib.Numerals.{add-one}
use native.Mathlib.Omega.{arith}
use lib.ListN.{length, get_or, set, take, drop, length-map, get_or-map, drop_of_length-le}
use lib.Seq.{drop-cons, take_all, set_split, take-suc-set, drop-set-lt, append_snoc}
use borrow.Author.Tests.{eq-eqb, ne_eqb}
use lib.Dec.{eqb}
use lib.Pointwise.{pointwise}
use Rattle.std.specs.List.{enumerate_from, list_all}
use Rattle.std.proofs.lemmas.List.{map-set, take-map, drop-map, map-append, get_or_default, get_or-drop}
use Rattle.std.proofs.lemmas.List.FromFn.{length-enumerate_from, get_or-enumerate_from}
use Rattle.std.proofs.Common.{length-drop}
use native.Mathlib.Decide.{dec_lt}
use borrow.Rule.Slice.PartMut.{put_mid}
use Rattle.lists.specs.Bytes.{Bytes, same, zeros}
use Rattle.lists.specs.Same.{same_swap}
use Rattle.hash.specs.declared.Digest.{Digest}
use Rattle.rules.specs.Numbers.{v1}
use Rattle.rules.specs.Paths.{tz}
use Rattle.rules.specs.Messages.{row}
use Rattle.rules.specs.Held.{odd, free_zero}
use Rattle.rules.specs.Checking.{agrees, off_row, carried}
use Rattle.rules.proofs.Hops.{tz_max}
use Rattle.rules.proofs.Parity.{is_odd, half_pow, halve}
use Rattle.std.specs.Prelude.{None, Some}
use Rattle.held.specs.Holding.{bytes_of, rows_of}
use Rattle.held.specs.Rows.{rows_say}

-- ---- digests, as code compares them

pub same_tests : (a b : Bytes) → pointwise eqb a b ≡ same a b
same_tests [] [] = refl
same_tests [] (y ∷ ys) = refl
same_tests (x ∷ xs) [] = refl
same_tests (x ∷ xs) (y ∷ ys) = ap (λ (t : Bool). eqb x y && t) (same_tests xs ys)

-- ---- the lowest bit, as code tests it

pub is_used : (q : ℕ) → (q % 2 ≡ 0 → ⊥) → odd q ≡ true
is_used q n = eq-eqb (q % 2) 1 (omega arith)

pub is_free : (q : ℕ) → q % 2 ≡ 0 → odd q ≡ false
is_free q e = ne_eqb (q % 2) 1 (λ f. omega arith)

-- ---- the rows as bytes

abbrev pub no_digest : Digest
no_digest = record { bytes = [] }

abbrev pub zero_digest : Digest
zero_digest = record { bytes = zeros }

pub row_of : (rows : List Digest) (c : ℕ) → get_or (rows_of rows) c [] ≡ bytes_of (get_or rows c no_digest)
row_of rows c = get_or-map bytes_of rows c no_digest

-- the length of an array of digests, as the record of a place has it
pub rows_long : (rows : List Digest) → length rows ≡ v1.levels → length (rows_of rows) ≡ v1.levels
rows_long rows e = length-map rows bytes_of ∙ e

-- Whether a row may stand as it is, with its number: where its bit of the count is 0, it is zero.
abbrev pub stands : ℕ → ℕ × Digest → Bool
stands n x = odd (n / 2 ^ x.0) || same x.1.bytes zeros

stand_from : (n l : ℕ) (rows : List Digest) → list_all (stands n) (enumerate_from l rows) ≡ free_zero (n / 2 ^ l) (rows_of rows)
unfolding free_zero
stand_from n l [] = refl
stand_from n l (d ∷ rows) =
    ap (λ (t : Bool). stands n (l, d) && t)
    (stand_from n (l + 1) rows ∙ ap (λ (q : ℕ). free_zero q (rows_of rows)) (ap (λ (m : ℕ). n / 2 ^ m) (add-one l) ∙ halve n l))

pub all_stand : (n : ℕ) (rows : List Digest) → list_all (stands n) (enumerate_from 0 rows) ≡ free_zero n (rows_of rows)
all_stand n rows = stand_from n 0 rows ∙ ap (λ (q : ℕ). free_zero q (rows_of rows)) (div-one n)

-- the k-th row from a level up, with its number, as `iter().enumerate().skip(level)` gives it
pub at_row : (rows : List Digest) (level k c : ℕ) (d : Digest)
    → (k < length (drop level (enumerate_from 0 rows))) × ((c, d) ≡ get_or (drop level (enumerate_from 0 rows)) k (c, d))
    → (level + k < length rows) × (c ≡ level + k) × (d ≡ get_or rows (level + k) no_digest)
at_row rows level k c d h =
    let all = enumerate_from 0 rows in
    let w : level + k < length rows = omega (arith, h.0, length-drop level all, length-enumerate_from 0 rows) in
    let e : (c, d) ≡ (0 + (level + k), get_or rows (level + k) d) =
    h.1 ∙ get_or-drop level all k (c, d) ∙ get_or-enumerate_from 0 rows (level + k) (c, d) (omega (arith, w, length-enumerate_from 0 rows)) in (
      w,
      ap (λ (x : ℕ × Digest). x.0) e ∙ zero-add _,
      ap (λ (x : ℕ × Digest). x.1) e ∙ get_or_default rows (level + k) d no_digest w,
    )

-- past the last of them
pub past_rows : (rows : List Digest) (level k : ℕ) → k ≡ length (drop level (enumerate_from 0 rows)) → length rows ≤ level + k
past_rows rows level k e = omega (arith, e, length-drop level (enumerate_from 0 rows), length-enumerate_from 0 rows)

-- ---- a turn

-- the rows after the carry from row c up, with t moving
abbrev pub carried_from : ℕ → ℕ → List Bytes → Bytes → List Bytes
carried_from c q rs t = take c rs ++ carried q (drop c rs) t

module _ (rs : List Bytes) (c : ℕ) (b : c < length rs) where
  first : drop c rs ≡ get_or rs c [] ∷ drop (c + 1) rs
  first = rw add-one (drop-cons rs c [] b)

  pub say_free : (q : ℕ) (x : Bytes) → odd q ≡ false → rows_say c q (drop c rs) x ≡ None
  unfolding rows_say agrees
  say_free q x e = rw (first, e)

  say_used : (q : ℕ) (x : Bytes) (b : Bool) → odd q ≡ true → same (get_or rs c []) (row v1 x (suc (suc c))) ≡ b
      → rows_say c q (drop c rs) x ≡ cond b (rows_say (c + 1) (q / 2) (drop (c + 1) rs) x) (Some c)
  unfolding rows_say agrees off_row
  say_used q x b e d = rw (first, e, d, add-one) (go b)
    where
      rest : List Bytes
      rest = drop (suc c) rs

      go : (t : Bool) → cond (t && agrees v1 (suc c) (q / 2) rest x) None (Some (cond t (off_row v1 (suc c) rest x) c))
          ≡ cond t (cond (agrees v1 (suc c) (q / 2) rest x) None (Some (off_row v1 (suc c) rest x))) (Some c)
      go true = refl
      go false = refl

  pub carry_stop : (q : ℕ) (t : Bytes) → odd q ≡ false → carried_from c q rs t ≡ set rs c t
  unfolding carried
  carry_stop q t e = rw (first, e, add-one) (sym (set_split rs c t b))

  pub carry_on : (q : ℕ) (t : Bytes) → odd q ≡ true → carried_from c q rs t ≡ carried_from (c + 1) (q / 2) (set rs c zeros) (get_or rs c [])
  unfolding carried
  carry_on q t e =
      let l : carried_from c q rs t ≡ take c rs ++ zeros ∷ carried (q / 2) (drop (suc c) rs) (get_or rs c []) = rw (first, e, add-one) in
      let r : carried_from (suc c) (q / 2) (set rs c zeros) (get_or rs c []) ≡ take c rs ++ zeros ∷ carried (q / 2) (drop (suc c) rs) (get_or rs c []) =
      rw (take-suc-set rs c zeros b, drop-set-lt (suc c) rs c zeros (omega arith)) (append_snoc (take c rs) zeros _) in
      rw add-one (l ∙ sym r)

-- with row c in use, its digest compared with the link of level c + 1
pub say_turn : (rows : List Digest) (c q : ℕ) (x : Bytes) (b : Bool) → c < length (rows_of rows) → odd q ≡ true
    → same (row v1 x (c + 2)) (bytes_of (get_or rows c no_digest)) ≡ b
    → rows_say c q (drop c (rows_of rows)) x ≡ cond b (rows_say (c + 1) (q / 2) (drop (c + 1) (rows_of rows)) x) (Some c)
say_turn rows c q x b l e t =
    let n : c + 2 ≡ suc (suc c) = omega arith in
    say_used (rows_of rows) c l q x b e
    (ap₂ (λ (r s : Bytes). same r s) (row_of rows c) (ap (λ (k : ℕ). row v1 x k) (sym n)) ∙ same_swap (bytes_of (get_or rows c no_digest)) (row v1 x (c + 2)) ∙ t)

pub carry_turn : (rows : List Digest) (c q : ℕ) (t : Bytes) → c < length (rows_of rows) → odd q ≡ true
    → carried_from c q (rows_of rows) t ≡ carried_from (c + 1) (q / 2) (rows_of (set rows c zero_digest)) (bytes_of (get_or rows c no_digest))
carry_turn rows c q t b e =
    carry_on (rows_of rows) c b q t e
    ∙ ap₂ (λ (l : List Bytes) (r : Bytes). carried_from (c + 1) (q / 2) l r) (sym (map-set bytes_of rows c zero_digest)) (row_of rows c)

-- the rows from a level up, as a part of all of them that begins at the lesser of the level and their number
module _ (rows : List Digest) (level from : ℕ) (all : length rows ≡ v1.levels) (lesser : from ≡ min v1.levels level) where
  long : length (rows_of rows) ≡ v1.levels
  long = rows_long rows all

  pub upper : rows_of (take (v1.levels - from) (drop from rows)) ≡ drop level (rows_of rows)
  upper =
      ap rows_of (take_all (v1.levels - from) (drop from rows) (omega (arith, all, length-drop from rows)))
      ∙ sym (drop-map bytes_of from rows)
      ∙ below (dec_lt level v1.levels)
    where
      below : Dec (level < v1.levels) → drop from (rows_of rows) ≡ drop level (rows_of rows)
      below (yes b) = let e : from ≡ level = omega arith in rw e
      below (no b) = drop_of_length-le (rows_of rows) {i = from} (omega (arith, long)) ∙ sym (drop_of_length-le (rows_of rows) {i = level} (omega (arith, long)))

  pub spliced : (part : List Digest) → rows_of (put_mid from (v1.levels - from) rows part) ≡ take level (rows_of rows) ++ rows_of part
  spliced part =
      let none : drop (v1.levels - from) (drop from rows) ≡ [] = drop_of_length-le (drop from rows) {i = v1.levels - from} (omega (arith, all, length-drop from rows)) in
      ap (λ (rest : List Digest). rows_of (take from rows ++ (part ++ rest))) none
      ∙ ap (λ (l : List Digest). rows_of (take from rows ++ l)) (append-nil part)
      ∙ map-append bytes_of (take from rows) part
      ∙ ap (λ (l : List Bytes). l ++ rows_of part) (sym (take-map bytes_of from rows) ∙ below (dec_lt level v1.levels))
    where
      below : Dec (level < v1.levels) → take from (rows_of rows) ≡ take level (rows_of rows)
      below (yes b) = let e : from ≡ level = omega arith in rw e
      below (no b) = take_all from (rows_of rows) (omega (arith, long)) ∙ sym (take_all level (rows_of rows) (omega (arith, long)))

-- ---- the link of the next level

-- Where row c is in use, the component reached has the link of level c + 1: its number is suc q in steps of 2 ^ c.
pub linked : (n l q c : ℕ) → n % 2 ^ l ≡ 0 → suc (n / 2 ^ l) * 2 ^ l ≡ suc q * 2 ^ c → odd q ≡ true → c < 64 → c + 1 ≤ tz (n + 2 ^ l)
linked n l q c d e o h =
    let g : suc (q / 2) * 2 ^ suc c ≡ suc q * 2 ^ c = half_pow (suc (q / 2)) c (suc q) (is_odd q o).twice in
    let w : n + 2 ^ l ≡ suc (q / 2) * 2 ^ suc c = let m = div-add-mod' n (2 ^ l) in omega arith in
    let z : (n + 2 ^ l) % 2 ^ suc c ≡ 0 = rw w (mul-mod_left (suc (q / 2)) (2 ^ suc c)) in
    rw add-one (tz_max 64 (n + 2 ^ l) (suc c) h z)

-- a turn on, that number is suc (q / 2) in steps of 2 ^ (c + 1)
pub reached : (to q c : ℕ) → to ≡ suc q * 2 ^ c → odd q ≡ true → to ≡ suc (q / 2) * 2 ^ (c + 1)
reached to q c e o = rw add-one (e ∙ sym (half_pow (suc (q / 2)) c (suc q) (is_odd q o).twice))

-- ---- past the last row

module _ (rs : List Bytes) (c : ℕ) (b : length rs ≤ c) where
  none : drop c rs ≡ []
  none = drop_of_length-le rs {i = c} b

  pub say_end : (q : ℕ) (x : Bytes) → rows_say c q (drop c rs) x ≡ None
  unfolding rows_say agrees
  say_end q x = rw none

  pub carry_end : (q : ℕ) (t : Bytes) → carried_from c q rs t ≡ rs
  unfolding carried
  carry_end q t = rw none (append-nil (take c rs) ∙ take_all c rs b)
