-- THE THEOREMS OF REQUEST A4, for any hash and any version of the log, over the outcomes of the two calls: "One state has one file, and a file that reads
-- gives itself back when written."
use Rattle.std.specs.Prelude.{◌≡◌, refl, Bool, true, false, ℕ, ◌≤◌, ltb, length}
use Rattle.std.proofs.Common.{sym, ap₂, ◌∙◌, arith, lit≤, ltb-false, le-ltb}
use Rattle.std.proofs.Math.Path.{ap}
use Rattle.lists.specs.Bytes.{Bytes, AreBytes}
use Rattle.rules.specs.Numbers.{Version}
use Rattle.rules.specs.Refusals.{done, state_broken, output_short}
use Rattle.rules.specs.Held.{Held, Sized, is_in_order}
use Rattle.rules.specs.Calls.{Written, written, gives, refuses, HeldFound, held_found, over}
use Rattle.file_form.specs.Form.{file_of, file_size, count_in, state_in}
use Rattle.file_form.specs.Calls.{write_call, read_call}
use Rattle.file_form.proofs.Answers.{write_is, Reads, reads, reads_state}
use Rattle.file_form.proofs.Back.{order_few, order_free, file_size_lem, mark_back, version_back, count_back, state_back, file_back}

module _ (H : Bytes → Bytes) (v : Version) where
  -- ---- exactly the states in order can be written

  module _ (h : Held) (out : Bytes) where
    -- what is known where a file is written
    pub record Writes : Type 0 where
      pub ordered : is_in_order H v h ≡ true
      pub room : file_size h.count ≤ length out

    -- A STATE IS WRITTEN EXACTLY IF IT IS IN ORDER and the output has room,
    pub writes : (write_call H v h out).answer.number ≡ done → Writes
    writes q = go (is_in_order H v h) refl (ltb (length out) (file_size h.count)) refl
      where
        refusal : (num : ℕ) → 1 ≤ num → write_call H v h out ≡ written (refuses num) out → ⊥
        refusal num l e = let z = ap (λ (w : Written). w.answer.number) e in omega arith

        go : (b1 : Bool) → is_in_order H v h ≡ b1 → (b2 : Bool) → ltb (length out) (file_size h.count) ≡ b2 → Writes
        go false e1 b2 e2 = absurd (refusal state_broken (lit≤ tt) (write_is H v h out e1 e2))
        go true e1 true e2 = absurd (refusal output_short (lit≤ tt) (write_is H v h out e1 e2))
        go true e1 false e2 = record { ordered = e1; room = ltb-false (length out) (file_size h.count) e2 }

    -- and then its file stands at the start of the output, its length is answered, and the rest stays.
    pub writes_file : Writes → write_call H v h out ≡ written (gives (file_size h.count)) (over (file_of v h) out)
    writes_file w = write_is H v h out w.ordered (le-ltb (length out) (file_size h.count) w.room)

    -- A state that is not in order is refused with 2, whatever the output, which stays.
    pub broken_refused : is_in_order H v h ≡ false → write_call H v h out ≡ written (refuses state_broken) out
    broken_refused e = write_is H v h out e refl

  -- ---- one state has one file

  module _ (h : Held) (s : Sized v h) (e : is_in_order H v h ≡ true) where
    own : state_in v (file_of v h) ≡ h
    own = state_back v h s (order_free H v h e)

    passes : Reads H v (file_of v h)
    passes = record {
      marked = mark_back v h s;
      versioned = version_back v h s;
      few = rw (count_back v h s) (order_few H v h e);
      sized = file_size_lem v h s (order_few H v h e) ∙ ap file_size (sym (count_back v h s));
      ordered = ap (is_in_order H v) own ∙ e;
    }

    -- WHAT IS WRITTEN READS BACK AS THE STATE.
    pub file_reads : read_call H v (file_of v h) ≡ held_found done h
    file_reads = reads_state H v (file_of v h) passes ∙ ap (held_found done) own

  -- TWO STATES IN ORDER WITH ONE FILE ARE ONE STATE.
  pub one_state : (h k : Held) → Sized v h → Sized v k → is_in_order H v h ≡ true → is_in_order H v k ≡ true → file_of v h ≡ file_of v k → h ≡ k
  one_state h k sh sk eh ek e = sym (own h sh eh) ∙ ap (state_in v) e ∙ own k sk ek

  -- ---- a file that reads gives itself back when written

  module _ (f : Bytes) (a : AreBytes f) (h : Held) (q : read_call H v f ≡ held_found done h) where
    passed : Reads H v f
    passed = reads H v f (ap (λ (r : HeldFound). r.number) q)

    stands : state_in v f ≡ h
    stands = ap (λ (r : HeldFound). r.held) (sym (reads_state H v f passed) ∙ q)

    -- What is read is in order,
    pub read_in_order : is_in_order H v h ≡ true
    read_in_order = ap (is_in_order H v) (sym stands) ∙ passed.ordered

    -- ITS FILE IS THE FILE THAT WAS READ,
    pub read_back : file_of v h ≡ f
    read_back = ap (file_of v) (sym stands) ∙ file_back v f a passed.marked passed.versioned passed.few passed.sized

    count_read : count_in f ≡ h.count
    unfolding state_in
    count_read = ap (λ (k : Held). k.count) stands

    -- and writing it, wherever there is room, writes that file byte for byte.
    pub read_writes : (out : Bytes) → length f ≤ length out → write_call H v h out ≡ written (gives (length f)) (over f out)
    read_writes out room =
        let size : file_size h.count ≡ length f = ap file_size (sym count_read) ∙ sym passed.sized in
        writes_file h out (record { ordered = read_in_order; room = rw size room })
        ∙ ap₂ {A = ℕ} {B = Bytes} {C = Written} (λ n b. written (gives n) (over b out)) size read_back
