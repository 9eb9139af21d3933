-- The outcome of each call, test by test. A test that an outcome does not come to may be anything. And what is known of a file that reads.
use Rattle.std.specs.Prelude.{◌≡◌, refl, Bool, true, false, cond, ℕ, ◌≤◌, leb, ltb, eqb, length}
use Rattle.std.proofs.Common.{ap, arith, lit≤, leb-true, eqb-true, le-ltb, le-leb, eq-eqb}
use Rattle.lists.specs.Bytes.{Bytes, be, same}
use Rattle.lists.specs.Same.{same_true, same_eq}
use Rattle.rules.specs.Numbers.{Version, limit}
use Rattle.rules.specs.Refusals.{done, state_broken, output_short}
use Rattle.rules.specs.Held.{Held, is_in_order}
use Rattle.rules.specs.Calls.{written, gives, refuses, HeldFound, held_found, over}
use Rattle.file_form.specs.Refusals.{file_short, mark_wrong, version_wrong, count_over, length_wrong}
use Rattle.file_form.specs.Form.{hld, head_size, file_of, file_size, mark_in, version_in, count_in, state_in}
use Rattle.file_form.specs.Calls.{write_call, unread, read_call}

module _ (H : Bytes → Bytes) (v : Version) where
  pub write_is : (h : Held) (out : Bytes) {ordered short : Bool} → is_in_order H v h ≡ ordered → ltb (length out) (file_size h.count) ≡ short
      → write_call H v h out
      ≡ cond ordered (cond short (written (refuses output_short) out) (written (gives (file_size h.count)) (over (file_of v h) out))) (written (refuses state_broken) out)
  unfolding write_call
  write_is h out eo es = rw (eo, es)

  pub read_is : (f : Bytes) {short marked versioned few sized ordered : Bool} → ltb (length f) head_size ≡ short → same (mark_in f) hld ≡ marked
      → same (version_in f) (be 2 v.number) ≡ versioned → leb (count_in f) (limit v) ≡ few → eqb (length f) (file_size (count_in f)) ≡ sized → is_in_order H v (state_in v f) ≡ ordered
      → read_call H v f
      ≡ cond short (unread H v file_short) (cond marked (cond versioned (cond few (cond sized (cond ordered (held_found done (state_in v f))
      (unread H v state_broken)) (unread H v length_wrong)) (unread H v count_over)) (unread H v version_wrong)) (unread H v mark_wrong))
  unfolding read_call
  read_is f e1 e2 e3 e4 e5 e6 = rw (e1, e2, e3, e4, e5, e6)

  module _ (f : Bytes) where
    -- the tests that a file passes
    pub record Reads : Type 0 where
      pub marked : mark_in f ≡ hld
      pub versioned : version_in f ≡ be 2 v.number
      pub few : count_in f ≤ limit v
      pub sized : length f ≡ file_size (count_in f)
      pub ordered : is_in_order H v (state_in v f) ≡ true

    -- A FILE READS EXACTLY IF IT PASSES THEM,
    pub reads : (read_call H v f).number ≡ done → Reads
    reads q = go (ltb (length f) head_size) refl (same (mark_in f) hld) refl (same (version_in f) (be 2 v.number)) refl (leb (count_in f) (limit v)) refl (eqb (length f) (file_size (count_in f))) refl
        (is_in_order H v (state_in v f)) refl
      where
        refusal : (num : ℕ) → 1 ≤ num → read_call H v f ≡ unread H v num → ⊥
        refusal num h e = let z = ap (λ (r : HeldFound). r.number) e in omega arith

        go : (b1 : Bool) → ltb (length f) head_size ≡ b1 → (b2 : Bool) → same (mark_in f) hld ≡ b2 → (b3 : Bool) → same (version_in f) (be 2 v.number) ≡ b3
            → (b4 : Bool) → leb (count_in f) (limit v) ≡ b4 → (b5 : Bool) → eqb (length f) (file_size (count_in f)) ≡ b5 → (b6 : Bool) → is_in_order H v (state_in v f) ≡ b6 → Reads
        go true e1 b2 e2 b3 e3 b4 e4 b5 e5 b6 e6 = absurd (refusal file_short (lit≤ tt) (read_is f e1 e2 e3 e4 e5 e6))
        go false e1 false e2 b3 e3 b4 e4 b5 e5 b6 e6 = absurd (refusal mark_wrong (lit≤ tt) (read_is f e1 e2 e3 e4 e5 e6))
        go false e1 true e2 false e3 b4 e4 b5 e5 b6 e6 = absurd (refusal version_wrong (lit≤ tt) (read_is f e1 e2 e3 e4 e5 e6))
        go false e1 true e2 true e3 false e4 b5 e5 b6 e6 = absurd (refusal count_over (lit≤ tt) (read_is f e1 e2 e3 e4 e5 e6))
        go false e1 true e2 true e3 true e4 false e5 b6 e6 = absurd (refusal length_wrong (lit≤ tt) (read_is f e1 e2 e3 e4 e5 e6))
        go false e1 true e2 true e3 true e4 true e5 false e6 = absurd (refusal state_broken (lit≤ tt) (read_is f e1 e2 e3 e4 e5 e6))
        go false e1 true e2 true e3 true e4 true e5 true e6 = record {
          marked = same_true (mark_in f) hld e2;
          versioned = same_true (version_in f) (be 2 v.number) e3;
          few = leb-true (count_in f) (limit v) e4;
          sized = eqb-true (length f) (file_size (count_in f)) e5;
          ordered = e6;
        }

    -- and then it gives the state that stands in it.
    pub reads_state : Reads → read_call H v f ≡ held_found done (state_in v f)
    reads_state r =
        read_is f (le-ltb (length f) head_size (omega (arith, r.sized))) (same_eq (mark_in f) hld r.marked) (same_eq (version_in f) (be 2 v.number) r.versioned)
        (le-leb (count_in f) (limit v) r.few) (eq-eqb (length f) (file_size (count_in f)) r.sized) r.ordered
