-- Nothing is lost: the state that stands in a state's file is that state, and the file of the state that stands in a file is that file.
use Rattle.std.specs.Prelude.{◌≡◌, true, ◌||◌, ℕ, ◌+◌, ◌^◌, ◌≤◌, ◌<◌, leb}
use Rattle.std.proofs.Math.Path.{refl, ap, ap₂}
use Rattle.std.proofs.Common.{sym, ◌∙◌, arith, pow_pos, length-drop, take-add}
use Rattle.std.proofs.Math.Bool.{and-eq-true_iff}
use mathlib.Core.List.{List, ◌++◌}
use Rattle.std.proofs.Math.ListN.{length, take, drop, length-append, take-append-drop}
use Rattle.std.proofs.Math.Seq.{take_at, drop_at}
use borrow.Author.Tests.{leb-true, le-leb}
use Rattle.lists.specs.Bytes.{Bytes, AreBytes, be, number, same}
use Rattle.lists.specs.Laws.{length_part}
use Rattle.lists.specs.Numbers.{number_be, be_number, part_bytes}
use Rattle.rules.specs.Numbers.{Version, limit}
use Rattle.rules.specs.Messages.{start_msg}
use Rattle.rules.specs.Held.{Held, Sized, free_zero, is_in_order}
use Rattle.file_form.specs.Form.{hld, head_size, head, in_use, file_of, file_size, mark_in, version_in, count_in, rows_in, state_in}
use Rattle.file_form.proofs.Rows.{use_size, use_back, rows_back, rows_free}

-- ---- what a state in order is

module _ (H : Bytes → Bytes) (v : Version) (h : Held) (e : is_in_order H v h ≡ true) where
  pub order_few : h.count ≤ limit v
  unfolding is_in_order
  order_few = leb-true h.count (limit v) ((and-eq-true_iff (leb h.count (limit v)) _).0 e).0

  pub order_free : free_zero h.count h.rows ≡ true
  unfolding is_in_order
  order_free = ((and-eq-true_iff (free_zero h.count h.rows) _).0 ((and-eq-true_iff (leb h.count (limit v)) _).0 e).1).0

-- a count up to the limit has no more bits than there are levels
pub few_bits : (v : Version) (n : ℕ) → n ≤ limit v → n < 2 ^ v.levels
few_bits v n h = let p = pow_pos v.levels in omega arith

-- ---- the bytes of a file

pub head_size_lem : (v : Version) (h : Held) → length h.digest ≡ 32 → length (head v h) ≡ head_size
unfolding head
head_size_lem v h d = length-append (hld ++ be 2 v.number ++ be 8 h.log ++ be 8 h.count) h.digest ∙ omega arith

module _ (v : Version) (h : Held) (s : Sized v h) where
  -- A FILE HAS 53 BYTES, AND 32 FOR EACH BIT OF THE COUNT.
  pub file_size_lem : h.count ≤ limit v → length (file_of v h) ≡ file_size h.count
  unfolding file_of
  file_size_lem few =
      let k : h.count < 2 ^ length h.rows = rw s.rows_all (few_bits v h.count few) in
      length-append (head v h) (in_use h.count h.rows)
      ∙ omega (arith, head_size_lem v h s.digest_whole, use_size h.rows h.count k (λ l b. s.rows_whole l (omega (arith, s.rows_all))))

  -- ---- state to file to state

  pub mark_back : mark_in (file_of v h) ≡ hld
  unfolding file_of head
  mark_back = refl

  pub version_back : version_in (file_of v h) ≡ be 2 v.number
  unfolding file_of head
  version_back = refl

  pub count_back : count_in (file_of v h) ≡ h.count
  unfolding file_of head
  count_back = number_be 8 h.count s.count_fits

  log_back : number (take 8 (drop 5 (file_of v h))) ≡ h.log
  unfolding file_of head
  log_back = number_be 8 h.log s.log_fits

  digest_back : take 32 (drop 21 (file_of v h)) ≡ h.digest
  unfolding file_of head
  digest_back = take_at h.digest (in_use h.count h.rows) 32 s.digest_whole

  rows_part : drop head_size (file_of v h) ≡ in_use h.count h.rows
  unfolding file_of
  rows_part = drop_at (head v h) (in_use h.count h.rows) head_size (head_size_lem v h s.digest_whole)

  -- THE STATE THAT STANDS IN A STATE'S FILE IS THAT STATE.
  pub state_back : free_zero h.count h.rows ≡ true → state_in v (file_of v h) ≡ h
  unfolding state_in
  state_back free =
      ap₂ (λ (l n : ℕ). record { log = l; count = n; digest = take 32 (drop 21 (file_of v h)); rows = rows_in v.levels n (drop head_size (file_of v h)) }) log_back count_back
      ∙ ap₂ (λ (d : Bytes) (rs : List Bytes). record { log = h.log; count = h.count; digest = d; rows = rs }) digest_back
      (ap (rows_in v.levels h.count) rows_part
      ∙ ap (λ (k : ℕ). rows_in k h.count (in_use h.count h.rows)) (sym s.rows_all)
      ∙ use_back h.rows h.count free (λ l b. s.rows_whole l (omega (arith, s.rows_all))))

-- ---- file to state to file

module _ (v : Version) (f : Bytes) where
  -- THE FILE OF THE STATE THAT STANDS IN A FILE IS THAT FILE.
  pub file_back : AreBytes f → mark_in f ≡ hld → version_in f ≡ be 2 v.number → count_in f ≤ limit v → length f ≡ file_size (count_in f) → file_of v (state_in v f) ≡ f
  unfolding file_of head state_in
  file_back a m n few size =
      ap₂ {A = Bytes} {B = Bytes} {C = Bytes} (λ x y. x ++ y ++ be 8 (number (take 8 (drop 5 f))) ++ be 8 (count_in f) ++ take 32 (drop 21 f) ++ in_use (count_in f) (rows_in v.levels (count_in f) (drop head_size f)))
      (sym m) (sym n)
      ∙ ap₂ {A = Bytes} {B = Bytes} {C = Bytes} (λ x y. take 3 f ++ take 2 (drop 3 f) ++ x ++ y ++ take 32 (drop 21 f) ++ in_use (count_in f) (rows_in v.levels (count_in f) (drop head_size f)))
      (be_number 8 (take 8 (drop 5 f)) (length_part 8 5 f (omega arith)) (part_bytes f 5 8 a)) (be_number 8 (take 8 (drop 13 f)) (length_part 8 13 f (omega arith)) (part_bytes f 13 8 a))
      ∙ ap (λ (x : Bytes). take 3 f ++ take 2 (drop 3 f) ++ take 8 (drop 5 f) ++ take 8 (drop 13 f) ++ take 32 (drop 21 f) ++ x)
      (rows_back v.levels (count_in f) (drop head_size f) (few_bits v (count_in f) few) (length-drop head_size f ∙ omega arith))
      ∙ ap (λ (x : Bytes). x ++ take 8 (drop 5 f) ++ take 8 (drop 13 f) ++ take 32 (drop 21 f) ++ drop head_size f) (sym (take-add 3 2 f))
      ∙ ap (λ (x : Bytes). x ++ take 8 (drop 13 f) ++ take 32 (drop 21 f) ++ drop head_size f) (sym (take-add 5 8 f))
      ∙ ap (λ (x : Bytes). x ++ take 32 (drop 21 f) ++ drop head_size f) (sym (take-add 13 8 f))
      ∙ ap (λ (x : Bytes). x ++ drop head_size f) (sym (take-add 21 32 f))
      ∙ take-append-drop head_size f

  -- "A wrong T(0) at count 0 gives 2, last": of a state that stands in a file nothing else can be out of order.
  pub read_order : (H : Bytes → Bytes) → count_in f ≤ limit v
      → is_in_order H v (state_in v f) ≡ (leb 1 (count_in f) || same (take 32 (drop 21 f)) (H (start_msg v (number (take 8 (drop 5 f))))))
  unfolding is_in_order state_in
  read_order H few = rw (le-leb (count_in f) (limit v) few, rows_free v.levels (count_in f) (drop head_size f))
