-- The schedule of a block in sixteen places: word t stands at place t % 16 when the word sixteen before it has been used.
use Rattle.std.specs.Prelude.{◌≡◌, ℕ, zero, suc, ◌+◌, ◌*◌, ◌%◌, ◌<◌, ◌≤◌, List, length, take, drop, slice_index, refl}
use Rattle.std.proofs.Common.{◌∙◌, add_assoc, zero-add, arith}
use Rattle.std.proofs.Math.Numerals.{add-one}
use Rattle.lists.specs.Bytes.{Bytes}
use Rattle.fips.specs.Sha256.{K, next, schedule, round}
use Rattle.fips.specs.declared.Words.{Words}

-- word t of the schedule of the block m
abbrev pub word_at : ℕ → Bytes → ℕ
word_at t m = next t m (schedule t m)

-- w as round t finds it: the words of the sixteen rounds from t on
pub record Ready (t : ℕ) (m : Bytes) (w : List ℕ) : Type 0 where
  pub size : length w ≡ 16
  pub words : (i : ℕ) → t ≤ i → i < t + 16 → slice_index w (i % 16) ≡ word_at i m

-- v is w where n places from place i on are replaced, each by the word sixteen later, and those after them are not
pub record Replaced (i n : ℕ) (w v : List ℕ) : Type 0 where
  pub size : length v ≡ 16
  pub ready : (g : ℕ) (m : Bytes) → Ready (16 * g + i) m w → Ready (16 * g + (i + n)) m v
  pub stays : (p : ℕ) → i + n ≤ p → slice_index v p ≡ slice_index w p

pub replaced_then : (i a b : ℕ) {u v w : List ℕ} → Replaced i a u v → Replaced (i + a) b v w → Replaced i (a + b) u w
replaced_then i a b p q =
    record {
      size = q.size;
      ready = λ g m r. rw (← add_assoc i a b) (q.ready g m (p.ready g m r));
      stays = λ j h. q.stays j (omega arith) ∙ p.stays j (omega arith);
    }

-- the constants of the sixteen rounds from 16 * g on
abbrev pub row : ℕ → List ℕ
row g = take 16 (drop (16 * g) K)

-- v after the first n rounds with the constants k and the words w
unfoldable pub turned : ℕ → List ℕ → List ℕ → Words → Words
turned zero k w v = v
turned (suc i) k w v = round (slice_index k i) (slice_index w i) (turned i k w v)

-- n turns, from the words w and v to x and u: a round, and then the word that it used is replaced
pub record Turned (n : ℕ) (k w : List ℕ) (v : Words) (x : List ℕ) (u : Words) : Type 0 where
  pub rounds : u ≡ turned n k w v
  pub words : Replaced 0 n w x

pub no_turn : (k w : List ℕ) (v : Words) → length w ≡ 16 → Turned 0 k w v w v
unfolding turned
no_turn k w v l = record { rounds = refl; words = record { size = l; ready = λ g m r. r; stays = λ p h. refl } }

-- one round more with the constant c, and one turn more: round n finds its word, since only those before it were replaced
module _ (k w : List ℕ) (v : Words) (n c : ℕ) (e : c ≡ slice_index k n) where
  pub turned_then : {u r : Words} → u ≡ turned n k w v → r ≡ round c (slice_index w n) u → r ≡ turned (n + 1) k w v
  unfolding turned
  turned_then p q = rw add-one (cc)

  pub turn_then : {x y : List ℕ} {u r : Words} → Turned n k w v x u → (r ≡ round c (slice_index x n) u) × Replaced n 1 x y → Turned (n + 1) k w v y r
  turn_then t (q, p) =
      record {
        rounds = turned_then t.rounds (rw (← (t.words.stays n (omega arith))) q);
        words = replaced_then 0 n 1 t.words (rw zero-add p);
      }
