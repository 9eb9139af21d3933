-- An accepted presence and an accepted absence, for one key and root: two different messages of equal hash, or a message whose hash is all zeros. For
-- any hash H of 32 bytes.
use Rattle.std.specs.Prelude.{◌≡◌, ◌≢◌, Bool, true, false, cond, length, take, drop}
use Rattle.std.proofs.Math.Path.{refl}
use Rattle.std.proofs.Common.{sym, ap, ◌∙◌, arith, take_at, drop_at}
use mathlib.Core.List.{List, [], ◌∷◌}
use Prim.Native.Nat.{ℕ, zero, suc}
use Rattle.lists.specs.Bytes.{Bytes, same, zeros}
use Rattle.lists.specs.Same.{same_true, same_false}
use Rattle.dictionary.specs.Handles.{turn}
use Rattle.dictionary.specs.Trie.{leaf_msg, inner_msg, crossing, climbed}
use Rattle.dictionary.specs.Meeting.{Meets, two, lone, full_msg, meeting}
use Rattle.dictionary.proofs.Rows.{All, Whole}

-- a message that the trie hashes, on the way of k: an inner node's, or the leaf's
pub data Form (k : Bytes) : Bytes → Type 0 where
  inner : (l r : Bytes) → length l ≡ 32 → length r ≡ 32 → Form k (inner_msg l r)
  leaf : Form k (leaf_msg k)

module _ (H : Bytes → Bytes) (k : Bytes) where
  -- two different messages of equal hash
  pub record Clash (a b : Bytes) : Type 0 where
    pub first_form : Form k a
    pub second_form : Form k b
    pub differs : a ≢ b
    pub collides : H a ≡ H b

  -- a message whose hash is all zeros
  pub record Zero (a : Bytes) : Type 0 where
    pub form : Form k a
    pub zeroed : H a ≡ zeros

  -- one of the two, and no third
  abbrev pub Met : Meets → Type 0
  Met (two a b) = Clash a b
  Met (lone a) = Zero a

-- the two sides of a node are those of its message
crossing_form : (e : ℕ) (k own s : Bytes) → length own ≡ 32 → length s ≡ 32 → Form k (crossing e k own s)
unfolding crossing
crossing_form e k own s lo ls = go (turn e k)
  where
    go : (b : Bool) → Form k (cond b (inner_msg s own) (inner_msg own s))
    go true = inner s own ls lo
    go false = inner own s lo ls

crossing_own : (e : ℕ) (k own s own' s' : Bytes) → length own ≡ 32 → length s ≡ 32 → length own' ≡ 32 → length s' ≡ 32
    → crossing e k own s ≡ crossing e k own' s' → own ≡ own'
unfolding crossing
crossing_own e k own s own' s' lo ls lo' ls' h = go (turn e k) h
  where
    go : (b : Bool) → cond b (inner_msg s own) (inner_msg own s) ≡ cond b (inner_msg s' own') (inner_msg own' s') → own ≡ own'
    go true x = sym (drop_at s own 32 ls) ∙ ap (drop 33) x ∙ drop_at s' own' 32 ls'
    go false x = sym (take_at own s 32 lo) ∙ ap (λ (m : Bytes). take 32 (drop 1 m)) x ∙ take_at own' s' 32 lo'

module _ (H : Bytes → Bytes) (hash_length : (m : Bytes) → length (H m) ≡ 32) where
  climbed_length : (e : ℕ) (k : Bytes) (ss : List Bytes) (b : Bytes) → length b ≡ 32 → length (climbed H e k ss b) ≡ 32
  unfolding climbed
  climbed_length zero k ss b l = l
  climbed_length (suc e) k [] b l = l
  climbed_length (suc e) k (s ∷ ss) b l = hash_length _

  -- the full way's message, where the empty way ends
  full_form : (e : ℕ) (k : Bytes) (ss : List Bytes) → All Whole ss → Form k (full_msg H e k ss)
  unfolding full_msg All
  full_form zero k ss a = leaf
  full_form (suc e) k [] a = leaf
  full_form (suc e) k (s ∷ ss) a = crossing_form e k _ s (climbed_length e k ss _ (hash_length _)) a.0

  full_hash : (e : ℕ) (k : Bytes) (ss : List Bytes) → H (full_msg H e k ss) ≡ climbed H e k ss (H (leaf_msg k))
  unfolding full_msg climbed
  full_hash zero k ss = refl
  full_hash (suc e) k [] = refl
  full_hash (suc e) k (s ∷ ss) = refl

  -- one depth: the messages differ there, or what lies below decides
  met_step : (k a b : Bytes) (m : Meets) → Form k a → Form k b → H a ≡ H b → (a ≡ b → Met H k m) → Met H k (cond (same a b) m (two a b))
  met_step k a b m fa fb h below = go (same a b) refl
    where
      go : (t : Bool) → same a b ≡ t → Met H k (cond t m (two a b))
      go true e = below (same_true a b e)
      go false e = record { first_form = fa; second_form = fb; differs = same_false a b e; collides = h }

  -- THE CLASH THEOREM. A full way and an empty way of one handle to one root: the walk from the root down ends in two different messages of equal
  -- hash, or in one whose hash is all zeros.
  pub met : (e : ℕ) (k : Bytes) (ss qs : List Bytes) → length ss ≡ e → All Whole ss → All Whole qs
      → climbed H e k ss (H (leaf_msg k)) ≡ climbed H e k qs zeros → Met H k (meeting H e k ss qs)
  unfolding meeting climbed All
  met zero k ss qs l ws wq h = record { form = leaf; zeroed = h }
  met (suc e) k ss [] l ws wq h = record { form = full_form (suc e) k ss ws; zeroed = full_hash (suc e) k ss ∙ h }
  met (suc e) k [] (q ∷ qs) l ws wq h = absurd (omega arith)
  met (suc e) k (s ∷ ss) (q ∷ qs) l ws wq h =
      let lp = climbed_length e k ss (H (leaf_msg k)) (hash_length (leaf_msg k)) in
      let lq = climbed_length e k qs zeros refl in
      met_step k _ _ (meeting H e k ss qs) (crossing_form e k _ s lp ws.0) (crossing_form e k _ q lq wq.0) h
      (λ x. met e k ss qs (omega arith) ws.1 wq.1 (crossing_own e k _ s _ q lp ws.0 lq wq.0 x))
