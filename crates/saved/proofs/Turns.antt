-- One turn of each loop over the rows, at row l, and the loop's end; and head and rows as the whole file. q is the count in steps of row l's level: its lowest bit tells
-- whether that row is in use.
use mathlib.Core.Path.{◌≡◌, refl, sym, ap, ap₂, ◌∙◌}
use mathlib.Core.Bool.{true, cond}
use mathlib.Core.List.{List, [], ◌∷◌, ◌++◌, append-nil}
use Prim.Native.Nat.{ℕ, suc, ◌+◌, ◌-◌, ◌*◌, ◌/◌, ◌%◌, ◌^◌, ◌≤◌, ◌<◌, zero-le}
use native.Mathlib.Nat.{zero-add, div-one, div-eq_of_lt}
use native.Mathlib.Numerals.{add-one}
use native.Mathlib.Omega.{arith}
use lib.Count.{ones, ones_step}
use lib.ListN.{length, get_or, set, take, drop, replicate, length-append, length-set}
use Rattle.std.proofs.lemmas.List.{get_or-replicate, get_or-set_other}
use lib.Seq.{paste, paste-zero, length-paste, take_all, take-suc, take-suc-set, length-take-le, drop-drop, append_snoc}
use Rattle.lists.specs.Bytes.{Bytes, be, zeros}
use Rattle.lists.specs.Pasting.{paste_all, paste_more}
use Rattle.rules.specs.Numbers.{v1, limit}
use Rattle.rules.specs.Held.{Held, odd}
use Rattle.rules.specs.Calls.{over}
use Rattle.rules.proofs.Parity.{halve}
use Rattle.held.proofs.Turns.{is_used, is_free}
use Rattle.file_form.specs.Form.{hld, head, head_size, in_use, file_of, file_size, rows_in}
use Rattle.file_form.proofs.Rows.{none_left, row_size, use_more}
use Rattle.file_form.proofs.Back.{few_bits}

-- ---- one row

-- past the last row no bit is left
none_above : (n q l : ℕ) → n ≤ limit v1 → q ≡ n / 2 ^ l → v1.levels ≤ l → l ≤ v1.levels → ones q ≡ 0
none_above n q l few e h g =
    let k : l ≡ v1.levels = omega arith in
    let z : q ≡ 0 = e ∙ ap (λ (m : ℕ). n / 2 ^ m) k ∙ div-eq_of_lt (few_bits v1 n few) in
    none_left q (omega arith)

-- ---- rows that are written

-- After l turns the rows in use among the first l stand behind the head, up to `at`.
pub record Put (out₀ : Bytes) (rs : List Bytes) (n : ℕ) (out : Bytes) (q at l : ℕ) : Type 0 where
  pub low : l ≤ v1.levels
  pub all : length rs ≡ v1.levels
  pub long : length out ≡ length out₀
  pub room : file_size n ≤ length out₀
  pub bits : q ≡ n / 2 ^ l
  pub left : at + 32 * ones q ≡ file_size n
  pub place : head_size + length (in_use n (take l rs)) ≡ at
  pub stand : out ≡ paste out₀ head_size (in_use n (take l rs)) (length (in_use n (take l rs)))

pub put_start : (out : Bytes) (rs : List Bytes) (n : ℕ) → length rs ≡ v1.levels → file_size n ≤ length out → Put out rs n out n head_size 0
unfolding in_use
put_start out rs n all room = record {
  low = omega arith;
  all = all;
  long = refl;
  room = room;
  bits = sym (div-one n);
  left = refl;
  place = refl;
  stand = paste-zero out head_size [];
}

module _ (out₀ : Bytes) (rs : List Bytes) (n : ℕ) (out : Bytes) (q at l : ℕ) (i : Put out₀ rs n out q at l) where
  -- row l has room
  pub put_fits : at + 32 * (q % 2) ≤ length out
  put_fits = omega (arith, i.left, i.long, i.room, ones_step q)

  module _ (h : l < v1.levels) (r o : Bytes) (known : r ≡ get_or rs l []) (sized : length (cond (odd q) r []) ≡ 32 * (q % 2)) (put : o ≡ paste out at (cond (odd q) r []) (32 * (q % 2))) where
    -- the rows in use among the first l + 1 are those among the first l, and row l if it is
    one_more : in_use n (take (l + 1) rs) ≡ in_use n (take l rs) ++ cond (odd q) r []
    one_more =
        ap (λ (k : ℕ). in_use n (take k rs)) (add-one l)
        ∙ ap (in_use n) (take-suc rs l [] (omega (arith, i.all)))
        ∙ use_more (take l rs) (get_or rs l []) n
        ∙ ap₂ {A = ℕ} {B = Bytes} {C = Bytes} (λ m x. in_use n (take l rs) ++ cond (odd m) x [])
        (ap (λ (k : ℕ). n / 2 ^ k) (length-take-le l rs (omega (arith, i.all))) ∙ sym i.bits) (sym known)

    more_long : length (in_use n (take (l + 1) rs)) ≡ length (in_use n (take l rs)) + 32 * (q % 2)
    more_long =
        ap length one_more ∙ length-append (in_use n (take l rs)) (cond (odd q) r [])
        ∙ ap (λ (k : ℕ). length (in_use n (take l rs)) + k) sized

    pub put_turn : Put out₀ rs n o (q / 2) (at + 32 * (q % 2)) (l + 1)
    put_turn = record {
      low = omega arith;
      all = i.all;
      long = ap length put ∙ length-paste out at (cond (odd q) r []) (32 * (q % 2)) put_fits (omega (arith, sized)) ∙ i.long;
      room = i.room;
      bits = ap (λ (k : ℕ). k / 2) i.bits ∙ sym (halve n l) ∙ ap (λ (k : ℕ). n / 2 ^ k) (sym (add-one l));
      left = omega (arith, i.left, ones_step q);
      place = omega (arith, i.place, more_long);
      stand = put
          ∙ ap₂ {A = Bytes} {B = ℕ} {C = Bytes} (λ x k. paste x k (cond (odd q) r []) (32 * (q % 2))) i.stand (sym i.place)
          ∙ paste_more out₀ (in_use n (take l rs)) (cond (odd q) r []) head_size (length (in_use n (take l rs))) (32 * (q % 2)) refl sized (omega (arith, i.room))
          ∙ ap₂ {A = Bytes} {B = ℕ} {C = Bytes} (λ x k. paste out₀ head_size x k) (sym one_more) (sym more_long);
    }

  -- a row in use goes to `at`, whole,
  pub put_used : l < v1.levels → (r o : Bytes) → r ≡ get_or rs l [] → length r ≡ 32 → q % 2 ≡ 1 → o ≡ paste out at r 32 → Put out₀ rs n o (q / 2) (at + 32 * (q % 2)) (l + 1)
  put_used h r o known whole e put =
      let u : odd q ≡ true = is_used q (λ z. omega arith) in
      put_turn h r o known (row_size q r whole) (rw (u, e) put)

  -- and one that is not leaves the output.
  pub put_free : l < v1.levels → (q % 2 ≡ 1 → ⊥) → Put out₀ rs n out (q / 2) (at + 32 * (q % 2)) (l + 1)
  put_free h e =
      let z : q % 2 ≡ 0 = omega arith in
      put_turn h (get_or rs l []) out refl (rw (is_free q z, z)) (rw (is_free q z, z) (paste-zero out at []))

  module _ (h : v1.levels ≤ l) (few : n ≤ limit v1) where
    every : take l rs ≡ rs
    every = take_all l rs (omega (arith, i.all))

    pub put_long : length (in_use n rs) ≡ 32 * ones n
    put_long = ap (λ (x : List Bytes). length (in_use n x)) (sym every) ∙ omega (arith, i.place, i.left, none_above n q l few i.bits h i.low)

    pub put_end : out ≡ paste out₀ head_size (in_use n rs) (32 * ones n)
    put_end =
        i.stand
        ∙ ap (λ (x : List Bytes). paste out₀ head_size (in_use n x) (length (in_use n x))) every
        ∙ ap (λ (k : ℕ). paste out₀ head_size (in_use n rs) k) put_long

-- ---- rows that are read

-- After l turns the first l rows stand there, the others are those that the bytes from `at` on give, and each of them is zero so far.
pub record Got (f : Bytes) (n : ℕ) (rs : List Bytes) (q at l : ℕ) : Type 0 where
  pub low : l ≤ v1.levels
  pub all : length rs ≡ v1.levels
  pub left : at + 32 * ones q ≡ length f
  pub stand : take l rs ++ rows_in (v1.levels - l) q (drop at f) ≡ rows_in v1.levels n (drop head_size f)
  pub free : (k : ℕ) → l ≤ k → k < v1.levels → get_or rs k [] ≡ zeros

pub got_start : (f : Bytes) (n : ℕ) → length f ≡ file_size n → Got f n (replicate v1.levels zeros) n head_size 0
got_start f n size = record { low = omega arith; all = refl; left = sym size; stand = refl; free = λ k b h. get_or-replicate v1.levels k zeros [] h }

module _ (f : Bytes) (n : ℕ) (rs : List Bytes) (q at l : ℕ) (i : Got f n rs q at l) where
  -- row l is there
  pub got_fits : at + 32 * (q % 2) ≤ length f
  got_fits = omega (arith, i.left, ones_step q)

  module _ (h : l < v1.levels) (r : Bytes) (read : r ≡ cond (odd q) (take 32 (drop at f)) zeros) where
    rest : rows_in (v1.levels - l) q (drop at f) ≡ r ∷ rows_in (v1.levels - (l + 1)) (q / 2) (drop (at + 32 * (q % 2)) f)
    unfolding rows_in
    rest =
        let k : v1.levels - l ≡ suc (v1.levels - (l + 1)) = omega arith in
        ap (λ (m : ℕ). rows_in m q (drop at f)) k
        ∙ ap₂ {A = Bytes} {B = Bytes} {C = List Bytes} (λ x y. x ∷ rows_in (v1.levels - (l + 1)) (q / 2) y) (sym read) (drop-drop (32 * (q % 2)) at f)

    pub got_turn : Got f n (set rs l r) (q / 2) (at + 32 * (q % 2)) (l + 1)
    got_turn = record {
      low = omega arith;
      all = length-set rs l r ∙ i.all;
      left = omega (arith, i.left, ones_step q);
      stand = ap (λ (x : List Bytes). x ++ rows_in (v1.levels - (l + 1)) (q / 2) (drop (at + 32 * (q % 2)) f))
          (ap (λ (k : ℕ). take k (set rs l r)) (add-one l) ∙ take-suc-set rs l r (omega (arith, i.all)))
          ∙ append_snoc (take l rs) r (rows_in (v1.levels - (l + 1)) (q / 2) (drop (at + 32 * (q % 2)) f))
          ∙ ap (λ (x : List Bytes). take l rs ++ x) (sym rest)
          ∙ i.stand;
      free = λ k b g. get_or-set_other rs l k r [] (omega arith) ∙ i.free k (omega arith) g;
    }

  -- a row in use is the one that stands at `at`,
  pub got_used : l < v1.levels → (r : Bytes) → q % 2 ≡ 1 → r ≡ take 32 (drop at f) → Got f n (set rs l r) (q / 2) (at + 32) (l + 1)
  got_used h r e read =
      let u : odd q ≡ true = is_used q (λ z. omega arith) in
      let k : at + 32 * (q % 2) ≡ at + 32 = omega arith in
      rw k at (got_turn h r (rw u read))

  -- and one that is not stays zero.
  pub got_free : l < v1.levels → (r : Bytes) → (q % 2 ≡ 1 → ⊥) → r ≡ get_or rs l [] → Got f n (set rs l r) (q / 2) at (l + 1)
  got_free h r e kept =
      let z : q % 2 ≡ 0 = omega arith in
      let k : at + 32 * (q % 2) ≡ at = omega arith in
      rw k at (got_turn h r (rw (is_free q z) (kept ∙ i.free l (omega arith) h)))

  pub got_end : v1.levels ≤ l → rs ≡ rows_in v1.levels n (drop head_size f)
  unfolding rows_in
  got_end h =
      let k : v1.levels - l ≡ 0 = omega (arith, i.low) in
      sym (take_all l rs (omega (arith, i.all)))
      ∙ sym (append-nil (take l rs))
      ∙ ap (λ (m : ℕ). take l rs ++ rows_in m q (drop at f)) (sym k)
      ∙ i.stand

-- ---- the whole file

-- the four writes of a head, each over what the one before left
pub head_written : (h : Held) (out o1 o2 o3 o4 L C : Bytes) → L ≡ be 8 h.log → C ≡ be 8 h.count → length h.digest ≡ 32
    → o1 ≡ paste out 0 (hld ++ be 2 v1.number) 5 → o2 ≡ paste o1 5 L 8 → o3 ≡ paste o2 13 C 8 → o4 ≡ paste o3 21 h.digest 32 → o4 ≡ paste out 0 (head v1 h) head_size
unfolding head
head_written h out o1 o2 o3 o4 L C el ec d e1 e2 e3 e4 =
    e4
    ∙ ap (λ (x : Bytes). paste x 21 h.digest 32)
    (e3 ∙ ap₂ {A = Bytes} {B = Bytes} {C = Bytes} (λ x y. paste x 13 y 8) (e2 ∙ ap₂ {A = Bytes} {B = Bytes} {C = Bytes} (λ x y. paste x 5 y 8) e1 el) ec)
    ∙ ap (λ (x : Bytes). paste (paste x 13 (be 8 h.count) 8) 21 h.digest 32) (paste_more out begin (be 8 h.log) 0 5 8 refl refl zero-le)
    ∙ ap (λ (x : Bytes). paste x 21 h.digest 32) (paste_more out (begin ++ be 8 h.log) (be 8 h.count) 0 13 8 refl refl zero-le)
    ∙ paste_more out (begin ++ be 8 h.log ++ be 8 h.count) h.digest 0 21 32 refl d zero-le
  where
    begin : Bytes
    begin = hld ++ be 2 v1.number

-- the rows behind the head are the file, over what stood there
pub file_written : (h : Held) (out o1 o2 : Bytes) → length (head v1 h) ≡ head_size → length (in_use h.count h.rows) ≡ 32 * ones h.count
    → o1 ≡ paste out 0 (head v1 h) head_size → o2 ≡ paste o1 head_size (in_use h.count h.rows) (32 * ones h.count) → o2 ≡ over (file_of v1 h) out
unfolding file_of
file_written h out o1 o2 long size e1 e2 =
    let all : length (head v1 h ++ in_use h.count h.rows) ≡ file_size h.count = length-append (head v1 h) (in_use h.count h.rows) ∙ omega arith in
    e2
    ∙ ap (λ (x : Bytes). paste x head_size (in_use h.count h.rows) (32 * ones h.count)) e1
    ∙ paste_more out (head v1 h) (in_use h.count h.rows) 0 head_size (32 * ones h.count) long size zero-le
    ∙ paste_all out (head v1 h ++ in_use h.count h.rows) 0 (file_size h.count) all
    ∙ ap (λ (n : ℕ). head v1 h ++ in_use h.count h.rows ++ drop n out) (zero-add (file_size h.count) ∙ sym all)
