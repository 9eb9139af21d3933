-- The words of a block's schedule as they are stored in sixteen places, and the rounds that use them.
use Rattle.std.proofs.Common.{◌≡◌, ℕ, zero, suc, ◌+◌, ◌-◌, ◌*◌, ◌%◌, ◌<◌, ◌≤◌, List, [], ◌∷◌, ◌++◌, length, get_or, take, set, sym, refl, ap, ◌∙◌, not-suc-le-zero, add-zero, add-suc, add-one, arith, length-append, length-set, get_or-set_other, get_or-set_same, le-ltb, lt-ltb}
use native.Mathlib.Decide.{dec_lt}
use lib.ListN.{get_or-append}
use lib.Seq.{get_or-append_seam}
use Rattle.lists.specs.Bytes.{Bytes}
use Rattle.lists.specs.Laws.{take_stored, get_d_known, get_d_part}
use Rattle.fips.specs.Sha256.{K, word, mix, next, schedule, rounds, plus, compress}
use Rattle.fips.specs.declared.Words.{Words}
use Rattle.block.specs.Places.{word_at, Ready, Replaced, row, turned, Turned}

length_schedule : (n : ℕ) (m : Bytes) → length (schedule n m) ≡ n
unfolding schedule
length_schedule zero m = refl
length_schedule (suc n) m = length-append (schedule n m) (word_at n m ∷ []) ∙ omega (arith, length_schedule n m)

-- word i is the same however far the schedule goes
word_of : (n i : ℕ) (m : Bytes) → i < n → get_or (schedule n m) i 0 ≡ word_at i m
unfolding schedule
word_of zero i m h = absurd (not-suc-le-zero h)
word_of (suc n) i m h = at (dec_lt i n) (word_of n i m)
  where
    at : Dec (i < n) → (i < n → get_or (schedule n m) i 0 ≡ word_at i m) → get_or (schedule n m ++ (word_at n m ∷ [])) i 0 ≡ word_at i m
    at (yes k) known = get_or-append (schedule n m) (word_at n m ∷ []) 0 i (omega (arith, length_schedule n m)) ∙ known k
    at (no k) known =
        let e : i ≡ n = omega arith in
        ap (λ (j : ℕ). get_or (schedule n m ++ (word_at n m ∷ [])) j 0) (e ∙ sym (length_schedule n m))
        ∙ get_or-append_seam (schedule n m) (word_at n m) [] 0
        ∙ ap (λ (j : ℕ). word_at j m) (sym e)

module _ (m : Bytes) (w : List ℕ) (t x : ℕ) where
  more : t < length w → take t w ≡ schedule t m → x ≡ word_at t m → take (t + 1) (set w t x) ≡ schedule (t + 1) m
  unfolding schedule
  more h e n = take_stored w t x (schedule t m) h e ∙ rw (n, add-one)

  pub step_load : t < 16 → t < length w → take t w ≡ schedule t m → x ≡ word m (4 * t) → take (t + 1) (set w t x) ≡ schedule (t + 1) m
  unfolding next
  step_load h l e v = more l e (simp (lt-ltb t 16 h) v)

-- the first sixteen words, as the first rounds find them
pub loaded : (m : Bytes) (w : List ℕ) (t : ℕ) → t ≡ 16 → length w ≡ 16 → take t w ≡ schedule t m → Ready 0 m w
loaded m w t et l h =
    record {
      size = l;
      words = λ i _ k.
          let e : i % 16 ≡ i = omega arith in
          rw e (get_d_known w (schedule t m) t i (omega arith) h ∙ word_of t i m (omega arith));
    }

word_as : (n i j : ℕ) (m : Bytes) → i < n → i ≡ j → get_or (schedule n m) i 0 ≡ word_at j m
word_as n i j m h e = word_of n i m h ∙ ap (λ (k : ℕ). word_at k m) e

same_mix : {a b c d a' b' c' d' : ℕ} → a ≡ a' → b ≡ b' → c ≡ c' → d ≡ d' → mix a b c d ≡ mix a' b' c' d'
same_mix p q r s = rw (p, q, r, s)

-- a word from those of the sixteen before it
later_word : (t : ℕ) (m : Bytes) → word_at (t + 16) m ≡ mix (word_at (t + 14) m) (word_at (t + 9) m) (word_at (t + 1) m) (word_at t m)
unfolding next
later_word t m =
    simp (le-ltb (t + 16) 16 (omega arith))
    (same_mix
    (word_as (t + 16) (t + 16 - 2) (t + 14) m (omega arith) (omega arith))
    (word_as (t + 16) (t + 16 - 7) (t + 9) m (omega arith) (omega arith))
    (word_as (t + 16) (t + 16 - 15) (t + 1) m (omega arith) (omega arith))
    (word_as (t + 16) (t + 16 - 16) t m (omega arith) (omega arith)))

-- the word at place i is replaced by the one sixteen later
module _ (i x : ℕ) (w : List ℕ) (hi : i < 16) (l : length w ≡ 16)
    (e : x ≡ mix (get_or w ((i + 14) % 16) 0) (get_or w ((i + 9) % 16) 0) (get_or w ((i + 1) % 16) 0) (get_or w i 0)) where
  module _ (g : ℕ) (m : Bytes) (r : Ready (16 * g + i) m w) where
    held : (p j : ℕ) → 16 * g + i ≤ j → j < 16 * g + i + 16 → j % 16 ≡ p → get_or w p 0 ≡ word_at j m
    held p j a b q = ap (λ (k : ℕ). get_or w k 0) (sym q) ∙ r.words j a b

    new_word : x ≡ word_at (16 * g + i + 16) m
    new_word =
        e
        ∙ same_mix
        (held ((i + 14) % 16) (16 * g + i + 14) (omega arith) (omega arith) (omega arith))
        (held ((i + 9) % 16) (16 * g + i + 9) (omega arith) (omega arith) (omega arith))
        (held ((i + 1) % 16) (16 * g + i + 1) (omega arith) (omega arith) (omega arith))
        (held i (16 * g + i) (omega arith) (omega arith) (omega arith))
        ∙ sym (later_word (16 * g + i) m)

    after : (j : ℕ) → 16 * g + (i + 1) ≤ j → j < 16 * g + (i + 1) + 16 → Dec (j < 16 * g + i + 16) → get_or (set w i x) (j % 16) 0 ≡ word_at j m
    after j a b (yes k) = get_or-set_other w i (j % 16) x 0 (λ q. omega arith) ∙ r.words j (omega arith) k
    after j a b (no k) =
        let place : j % 16 ≡ i = omega arith in
        let word : 16 * g + i + 16 ≡ j = omega arith in
        ap (λ (p : ℕ). get_or (set w i x) p 0) place
        ∙ get_or-set_same w i x 0 (omega arith)
        ∙ new_word
        ∙ ap (λ (k : ℕ). word_at k m) word

  pub replaced : Replaced i 1 w (set w i x)
  replaced =
      record {
        size = simp length-set l;
        ready = λ g m r. record { size = simp length-set l; words = λ j a b. after g m r j a b (dec_lt j (16 * g + i + 16)) };
        stays = λ p h. get_or-set_other w i p x 0 (λ q. omega arith);
      }

-- the working words before round 16 * g, and the words of the sixteen rounds from there on
pub record Reached (g : ℕ) (m : Bytes) (s : Words) (w : List ℕ) (v : Words) : Type 0 where
  pub rounded : v ≡ rounds (16 * g) (schedule 64 m) s
  pub ready : Ready (16 * g) m w

module _ (g : ℕ) (m : Bytes) (s : Words) {w : List ℕ} {v : Words} (h : g < 4) (r : Reached g m s w v) where
  used : (n : ℕ) → n < 16 → get_or w n 0 ≡ get_or (schedule 64 m) (16 * g + n) 0
  used n k =
      let place : (16 * g + n) % 16 ≡ n = omega arith in
      ap (λ (p : ℕ). get_or w p 0) (sym place)
      ∙ r.ready.words (16 * g + n) (omega arith) (omega arith)
      ∙ sym (word_of 64 (16 * g + n) m (omega arith))

  next_row : 16 * g + 16 ≡ 16 * (g + 1)
  next_row = omega arith

  turns : (n : ℕ) → n ≤ 16 → turned n (row g) w v ≡ rounds (16 * g + n) (schedule 64 m) s
  unfolding turned rounds
  turns zero k = rw add-zero r.rounded
  turns (suc n) k = rw add-suc (cc (get_d_part 16 (16 * g) n K (omega arith), used n (omega arith), turns n (omega arith)))

  pub sixteen : {u : Words} → u ≡ turned 16 (row g) w v → u ≡ rounds (16 * (g + 1)) (schedule 64 m) s
  sixteen e = e ∙ rw (← next_row) (turns 16 (omega arith))

  pub reached_next : {x : List ℕ} {u : Words} → Turned 16 (row g) w v x u → Reached (g + 1) m s x u
  reached_next t = record { rounded = sixteen t.rounds; ready = rw (← next_row) (t.words.ready g m (rw add-zero r.ready)) }

-- the rounds begin at the hash value before the block, and it is added to what they lead to
pub reached_first : (m : Bytes) (s : Words) {w : List ℕ} → Ready 0 m w → Reached 0 m s w s
unfolding rounds
reached_first m s h = record { rounded = refl; ready = h }

pub compressed : (m : Bytes) (s : Words) {v r : Words} → v ≡ rounds 64 (schedule 64 m) s → r ≡ plus s v → r ≡ compress s m
unfolding compress
compressed m s e f = f ∙ ap (plus s) e
