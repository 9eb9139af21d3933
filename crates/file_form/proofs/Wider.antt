-- "A FILE FROM A4 STILL READS, SINCE IT HOLDS USED ROWS ONLY" (02, A7), for any hash and for versions that differ in their levels alone: every file whose count is
-- at most the lower limit reads or is refused as it was, and gives the same state, further rows free; and every state up to that limit has the file that it had.
use Rattle.std.specs.Prelude.{◌≡◌, Bool, List, [], ◌∷◌, ◌++◌, ltb, eqb, length, drop, replicate}
use Rattle.std.proofs.Math.Path.{refl}
use Rattle.std.proofs.Common.{sym, ap, ◌∙◌, le_trans, arith}
use Rattle.std.proofs.Math.Bool.{true, false, cond}
use Prim.Native.Nat.{ℕ, zero, suc, ◌+◌, ◌/◌, ◌^◌, ◌≤◌, ◌<◌}
use Rattle.std.proofs.lemmas.List.{replicate-append-replicate}
use borrow.Author.Tests.{le-leb}
use Rattle.lists.specs.Bytes.{Bytes, be, same, zeros}
use Rattle.rules.specs.Numbers.{Version, limit, wider}
use Rattle.rules.specs.Refusals.{done, state_broken}
use Rattle.rules.specs.Held.{Held, odd, held_zeros, is_in_order, widened}
use Rattle.rules.specs.Calls.{HeldFound, held_found}
use Rattle.rules.proofs.Wider.{limit_wider, order_wider}
use Rattle.file_form.specs.Form.{hld, head_size, head, in_use, file_of, file_size, mark_in, version_in, count_in, state_in}
use Rattle.file_form.specs.Refusals.{file_short, mark_wrong, version_wrong, length_wrong}
use Rattle.file_form.specs.Calls.{write_call, read_call}
use Rattle.file_form.proofs.Rows.{half_left}
use Rattle.file_form.proofs.Longer.{rows_wider}
use Rattle.file_form.proofs.Answers.{reads}
use Rattle.file_form.proofs.Back.{few_bits}

-- ---- the rows of a file

-- THE STATE THAT STANDS IN A FILE IS THE ONE THAT STOOD IN IT, further rows free.
pub state_wider : (k : ℕ) (v : Version) (f : Bytes) → count_in f ≤ limit v → state_in (wider k v) f ≡ widened k (state_in v f)
unfolding state_in
state_wider k v f few = rw (rows_wider v.levels k (count_in f) (drop head_size f) (few_bits v (count_in f) few))

-- ---- the rows of a state

none_used : (k : ℕ) → in_use 0 (replicate k zeros) ≡ []
unfolding in_use
none_used zero = refl
none_used (suc k) = none_used k

use_wider : (k : ℕ) (rs : List Bytes) (q : ℕ) → q < 2 ^ length rs → in_use q (rs ++ replicate k zeros) ≡ in_use q rs
unfolding in_use
use_wider k [] q h = let e : q ≡ 0 = omega arith in rw (e) (none_used k)
use_wider k (r ∷ rs) q h = ap (λ (b : Bytes). cond (odd q) r [] ++ b) (use_wider k rs (q / 2) (half_left q (length rs) h))

-- A STATE HAS THE FILE THAT IT HAD.
pub file_wider : (k : ℕ) (v : Version) (h : Held) → length h.rows ≡ v.levels → h.count ≤ limit v → file_of (wider k v) (widened k h) ≡ file_of v h
unfolding file_of head
file_wider k v h rows few = rw (use_wider k h.rows h.count (rw rows (few_bits v h.count few)))

-- ---- the calls

-- what is read, its state with k further rows
abbrev pub widened_found : ℕ → HeldFound → HeldFound
widened_found k r = held_found r.number (widened k r.held)

module _ (H : Bytes → Bytes) (k : ℕ) (v : Version) where
  -- the state that stands beside a refusal
  zeros_wider : held_zeros (wider k v) ≡ widened k (held_zeros v)
  zeros_wider = ap (λ (rs : List Bytes). record { log = 0; count = 0; digest = zeros; rows = rs }) (sym (replicate-append-replicate v.levels k zeros))

  -- EVERY FILE WHOSE COUNT IS AT MOST THE LOWER LIMIT READS, OR IS REFUSED, AS IT WAS.
  pub read_wider : (f : Bytes) → count_in f ≤ limit v → read_call H (wider k v) f ≡ widened_found k (read_call H v f)
  unfolding read_call state_in
  read_wider f few =
      rw (le-leb (count_in f) (limit (wider k v)) (le_trans few (limit_wider k v)), le-leb (count_in f) (limit v) few, zeros_wider, state_wider k v f few, order_wider H k v (state_in v f) few)
      (go (ltb (length f) head_size) (same (mark_in f) hld) (same (version_in f) (be 2 v.number)) (eqb (length f) (file_size (count_in f))) (is_in_order H v (state_in v f)))
    where
      go : (b1 b2 b3 b5 b6 : Bool) →
          let no : ℕ → HeldFound = λ num. held_found num (held_zeros v) in
          let wide : HeldFound → HeldFound = widened_found k in
          cond b1 (wide (no file_short)) (cond b2 (cond b3 (cond b5 (cond b6 (wide (held_found done (state_in v f)))
          (wide (no state_broken))) (wide (no length_wrong))) (wide (no version_wrong))) (wide (no mark_wrong)))
          ≡ wide (cond b1 (no file_short) (cond b2 (cond b3 (cond b5 (cond b6 (held_found done (state_in v f))
          (no state_broken)) (no length_wrong)) (no version_wrong)) (no mark_wrong)))
      go true b2 b3 b5 b6 = refl
      go false false b3 b5 b6 = refl
      go false true false b5 b6 = refl
      go false true true false b6 = refl
      go false true true true false = refl
      go false true true true true = refl

  -- EVERY STATE UP TO THE LOWER LIMIT IS WRITTEN, OR IS REFUSED, AS IT WAS.
  pub write_wider : (h : Held) (out : Bytes) → length h.rows ≡ v.levels → h.count ≤ limit v → write_call H (wider k v) (widened k h) out ≡ write_call H v h out
  unfolding write_call
  write_wider h out rows few = rw (order_wider H k v h few, file_wider k v h rows few)

  -- WHAT READ WITH FEWER LEVELS READS WITH MORE, as the same state, further rows free.
  pub older_reads : (f : Bytes) (h : Held) → read_call H v f ≡ held_found done h → read_call H (wider k v) f ≡ held_found done (widened k h)
  older_reads f h q = read_wider f (reads H v f (ap (λ (r : HeldFound). r.number) q)).few ∙ ap (widened_found k) q
