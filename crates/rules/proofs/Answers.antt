-- The outcome of each call on a store, by the tests that lead to it.
use Rattle.std.proofs.Math.Path.{◌≡◌, refl, sym, ap}
use Rattle.std.specs.Prelude.{Bool, ℕ, zero, suc, ◌≤◌, ◌<◌, length}
use Rattle.std.proofs.Math.Bool.{true, false, cond}
use Rattle.std.proofs.Common.{arith}
use borrow.Author.Tests.{lt-ltb, le-ltb, le-leb, lt-leb}
use Rattle.lists.specs.Bytes.{Bytes, zeros}
use Rattle.rules.specs.Numbers.{Version, entry_limit}
use Rattle.rules.specs.Refusals.{done, store_damaged, too_long, no_such_number, store_full, output_short, element_wrong}
use Rattle.rules.specs.Store.{header_size, capacity, count_of, damaged, log_of, t_of, started, stores, count_after, cut_at, lowest_wrong}
use Rattle.rules.specs.Held.{held_of, held_zeros}
use Rattle.rules.specs.Calls.{Answer, gives, refuses_with, refuses, written, found, held_found, over, start_call, count_call, append_call, digest_call, held_call, build_call, judged, audit_call}

-- ---- starting a store: 6

module _ (v : Version) (s : Bytes) (log : ℕ) where
  pub start_short : length s < header_size → start_call v s log ≡ written (refuses output_short) s
  unfolding start_call
  start_short h = rw (lt-ltb (length s) header_size h)

  pub start_done : header_size ≤ length s → start_call v s log ≡ written (gives 0) (started v s log)
  unfolding start_call
  start_done h = rw (le-ltb (length s) header_size h)

-- ---- counting: 1

module _ (v : Version) (s : Bytes) where
  pub count_damaged : damaged v s ≡ true → count_call v s ≡ refuses store_damaged
  unfolding count_call
  count_damaged d = rw d

  pub count_done : damaged v s ≡ false → count_call v s ≡ gives (count_of v s)
  unfolding count_call
  count_done d = rw d

  -- What a caller learns from the answer: the store is damaged, or it is in order and has that count.
  pub damaged_counted : refuses store_damaged ≡ count_call v s → damaged v s ≡ true
  unfolding count_call
  damaged_counted e = go (damaged v s) e
    where
      go : (b : Bool) → refuses store_damaged ≡ cond b (refuses store_damaged) (gives (count_of v s)) → b ≡ true
      go true q = refl
      go false q = absurd (let z : ◌≡◌ {A = ℕ} store_damaged done = ap (λ (x : Answer). x.number) q in omega arith)

  pub done_counted : (n : ℕ) → gives n ≡ count_call v s → (damaged v s ≡ false) × (count_of v s ≡ n)
  unfolding count_call
  done_counted n e = go (damaged v s) e
    where
      go : (b : Bool) → gives n ≡ cond b (refuses store_damaged) (gives (count_of v s)) → (b ≡ false) × (count_of v s ≡ n)
      go true q = absurd (let z : ◌≡◌ {A = ℕ} done store_damaged = ap (λ (x : Answer). x.number) q in omega arith)
      go false q = (refl, sym (ap (λ (x : Answer). x.value) q))

-- ---- appending: 1, 3, 5

module _ (H : Bytes → Bytes) (v : Version) (front s e : Bytes) (stop : ℕ) where
  pub append_damaged : damaged v s ≡ true → append_call H v front s e stop ≡ written (refuses store_damaged) s
  unfolding append_call
  append_damaged d = rw d

  pub append_long : damaged v s ≡ false → entry_limit < length e → append_call H v front s e stop ≡ written (refuses too_long) s
  unfolding append_call
  append_long d h = rw (d, lt-ltb entry_limit (length e) h)

  pub append_full : damaged v s ≡ false → length e ≤ entry_limit → capacity v s ≤ count_of v s → append_call H v front s e stop ≡ written (refuses store_full) s
  unfolding append_call
  append_full d h f = rw (d, le-ltb entry_limit (length e) h, le-leb (capacity v s) (count_of v s) f)

  pub append_done : damaged v s ≡ false → length e ≤ entry_limit → count_of v s < capacity v s
      → append_call H v front s e stop ≡ written (gives (count_after v s (stores v stop))) (cut_at H v front s e (stores v stop))
  unfolding append_call
  append_done d h f = rw (d, le-ltb entry_limit (length e) h, lt-leb (capacity v s) (count_of v s) f)

-- ---- reading a digest or a held state: 1, 4

module _ (H : Bytes → Bytes) (v : Version) (s : Bytes) (j : ℕ) where
  pub digest_damaged : damaged v s ≡ true → digest_call H v s j ≡ found store_damaged zeros
  unfolding digest_call
  digest_damaged d = rw d

  pub digest_above : damaged v s ≡ false → count_of v s < j → digest_call H v s j ≡ found no_such_number zeros
  unfolding digest_call
  digest_above d h = rw (d, lt-ltb (count_of v s) j h)

  pub digest_done : damaged v s ≡ false → j ≤ count_of v s → digest_call H v s j ≡ found done (t_of H v s j)
  unfolding digest_call
  digest_done d h = rw (d, le-ltb (count_of v s) j h)

  pub held_damaged : damaged v s ≡ true → held_call H v s j ≡ held_found store_damaged (held_zeros v)
  unfolding held_call
  held_damaged d = rw d

  pub held_above : damaged v s ≡ false → count_of v s < j → held_call H v s j ≡ held_found no_such_number (held_zeros v)
  unfolding held_call
  held_above d h = rw (d, lt-ltb (count_of v s) j h)

  pub held_done : damaged v s ≡ false → j ≤ count_of v s → held_call H v s j ≡ held_found done (held_of v (log_of s) (t_of H v s) j)
  unfolding held_call
  held_done d h = rw (d, le-ltb (count_of v s) j h)

-- ---- building a proof: 1, 4, 6

module _ (v : Version) (s : Bytes) (asked : Bool) (size : ℕ) (proof out : Bytes) where
  pub build_damaged : damaged v s ≡ true → build_call v s asked size proof out ≡ written (refuses store_damaged) out
  unfolding build_call
  build_damaged d = rw d

  pub build_unasked : damaged v s ≡ false → asked ≡ false → build_call v s asked size proof out ≡ written (refuses no_such_number) out
  unfolding build_call
  build_unasked d a = rw (d, a)

  pub build_short : damaged v s ≡ false → asked ≡ true → length out < size → build_call v s asked size proof out ≡ written (refuses output_short) out
  unfolding build_call
  build_short d a h = rw (d, a, lt-ltb (length out) size h)

  pub build_done : damaged v s ≡ false → asked ≡ true → size ≤ length out → build_call v s asked size proof out ≡ written (gives size) (over proof out)
  unfolding build_call
  build_done d a h = rw (d, a, le-ltb (length out) size h)

-- ---- the audit: 1, 12

module _ (H : Bytes → Bytes) (v : Version) (s : Bytes) where
  pub audit_damaged : damaged v s ≡ true → audit_call H v s ≡ refuses store_damaged
  unfolding audit_call
  audit_damaged d = rw d

  pub audit_judged : damaged v s ≡ false → audit_call H v s ≡ judged (lowest_wrong H v s 1 (count_of v s)) (count_of v s)
  unfolding audit_call
  audit_judged d = rw d

-- A lowest wrong element is named.
pub judged_wrong : (j n : ℕ) → (j ≡ 0 → ⊥) → judged j n ≡ refuses_with element_wrong j
judged_wrong zero n h = absurd (h refl)
judged_wrong (suc j) n h = refl

-- Where the answer is done, no element is wrong.
pub judged_done : (w n m : ℕ) → judged w n ≡ gives m → w ≡ 0
judged_done zero n m q = refl
judged_done (suc w) n m q = absurd (let z : ◌≡◌ {A = ℕ} element_wrong done = ap (λ (x : Answer). x.number) q in omega arith)
