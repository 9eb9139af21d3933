-- Proofs that are built are accepted. The way of a handle ends in the handles that agree with it in all 256 bits: in the handle itself, if the list
-- has it, and in an empty node if not. For any hash H of 32 bytes.
use Rattle.std.specs.Prelude.{◌≡◌, Bool, not, ◌||◌, length}
use Rattle.std.proofs.Math.Path.{refl, ap}
use Rattle.std.proofs.Common.{sym, ◌∙◌, true≢false}
use Rattle.std.proofs.Math.Bool.{true, false, cond}
use Rattle.std.proofs.lemmas.Bool.{false≢true}
use mathlib.Core.List.{List, [], ◌∷◌}
use Prim.Native.Nat.{ℕ, zero, suc, ◌+◌, ◌*◌, ◌/◌, ◌^◌, ◌≤◌}
use Rattle.std.proofs.Math.Nat.{div-one}
use native.Mathlib.Omega.{arith}
use Rattle.lists.specs.Bytes.{Bytes, same, zeros, number}
use Rattle.lists.specs.Same.{same_refl}
use Rattle.dictionary.specs.Handles.{turn, side, has}
use Rattle.dictionary.specs.Trie.{leaf_msg, inner_msg, crossing, subtree, root_of, way, climbed}
use Rattle.dictionary.proofs.Rows.{All, Whole, Row, all_map}
use Rattle.dictionary.proofs.Bits.{row_below, row_equal}
use Rattle.dictionary.proofs.Sides.{Near, digit, side_all, side_near, has_side, turn_true, turn_false}
use Rattle.rules.proofs.Parity.{halve}

-- the handles at the end of the way of k
unfoldable pub at_end : ℕ → Bytes → List Bytes → List Bytes
at_end zero k hs = hs
at_end (suc e) k hs = at_end e k (side (turn e k) e hs)

end_none : (e : ℕ) (k : Bytes) → at_end e k [] ≡ []
unfolding at_end side
end_none zero k = refl
end_none (suc e) k = end_none e k

pub end_has : (e : ℕ) (k : Bytes) (hs : List Bytes) → has k (at_end e k hs) ≡ has k hs
unfolding at_end
end_has zero k hs = refl
end_has (suc e) k hs = end_has e k (side (turn e k) e hs) ∙ has_side k e hs

-- they agree with k in all bits
own_half : (e : ℕ) (k : Bytes) → number k / 2 ^ e ≡ number k / 2 ^ suc e * 2 + digit (turn e k)
own_half e k = go (turn e k) refl
  where
    go : (b : Bool) → turn e k ≡ b → number k / 2 ^ e ≡ number k / 2 ^ suc e * 2 + digit b
    go true t = let d = turn_true e k t in let g = halve (number k) e in omega arith
    go false t = let d = turn_false e k t in let g = halve (number k) e in omega arith

end_near : (e : ℕ) (k : Bytes) (hs : List Bytes) → Near e (number k / 2 ^ e) hs → Near 0 (number k / 2 ^ 0) (at_end e k hs)
unfolding at_end
end_near zero k hs n = n
end_near (suc e) k hs n = end_near e k (side (turn e k) e hs) (rw (own_half e k) (side_near (turn e k) e (number k / 2 ^ suc e) hs n))

end_all : (P : Bytes → Type 0) (e : ℕ) (k : Bytes) (hs : List Bytes) → All P hs → All P (at_end e k hs)
unfolding at_end
end_all P zero k hs a = a
end_all P (suc e) k hs a = end_all P e k (side (turn e k) e hs) (side_all P (turn e k) e hs a)

module _ (k : Bytes) (row : Row k) (hs : List Bytes) (rs : All Row hs) where
  -- at the root, all agree in no bits
  all_near : Near 256 (number k / 2 ^ 256) hs
  all_near = rw (row_below k row) (all_map (λ h r. row_below h r) hs rs)

  pub only : All (λ h. h ≡ k) (at_end 256 k hs)
  unfolding All
  only = pairs (at_end 256 k hs) (end_all Row 256 k hs rs) (end_near 256 k hs all_near)
    where
      pairs : (l : List Bytes) → All Row l → Near 0 (number k / 2 ^ 0) l → All (λ h. h ≡ k) l
      pairs [] a n = tt
      pairs (h ∷ l) a n = (row_equal h k a.0 row (sym (div-one (number h)) ∙ n.0 ∙ div-one (number k)), pairs l a.1 n.1)

-- the node at the end: the leaf of k, or an empty one
module _ (H : Bytes → Bytes) where
  lowest : (k : Bytes) (l : List Bytes) → All (λ h. h ≡ k) l → (b : Bool) → has k l ≡ b → cond b (H (leaf_msg k)) zeros ≡ subtree H 0 l
  unfolding has subtree All
  lowest k [] a true e = absurd (false≢true e)
  lowest k [] a false e = refl
  lowest k (h ∷ l) a true e = ap (λ (x : Bytes). H (leaf_msg x)) (sym a.0)
  lowest k (h ∷ l) a false e = absurd (true≢false (sym (ap (λ (x : Bool). x || has k l) (ap (λ (x : Bytes). same x k) a.0 ∙ same_refl k)) ∙ e))

  -- the two sides, told by the handle's own bit
  sides : (e : ℕ) (k : Bytes) (hs : List Bytes) → crossing e k (subtree H e (side (turn e k) e hs)) (subtree H e (side (not (turn e k)) e hs))
      ≡ inner_msg (subtree H e (side false e hs)) (subtree H e (side true e hs))
  unfolding crossing
  sides e k hs = go (turn e k)
    where
      go : (b : Bool) → cond b (inner_msg (subtree H e (side (not b) e hs)) (subtree H e (side b e hs))) (inner_msg (subtree H e (side b e hs)) (subtree H e (side (not b) e hs)))
          ≡ inner_msg (subtree H e (side false e hs)) (subtree H e (side true e hs))
      go true = refl
      go false = refl

  -- the siblings on a way come to the node above it, from the node at its end
  pub climb_way : (e : ℕ) (k : Bytes) (hs : List Bytes) (b : Bytes) → b ≡ subtree H 0 (at_end e k hs) → climbed H e k (way H e k hs) b ≡ subtree H e hs
  unfolding climbed way subtree at_end
  climb_way zero k hs b h = h
  climb_way (suc e) k [] b h = h ∙ ap (subtree H 0) (end_none (suc e) k)
  climb_way (suc e) k (x ∷ hs) b h =
      ap (λ (y : Bytes). H (crossing e k y (subtree H e (side (not (turn e k)) e (x ∷ hs))))) (climb_way e k (side (turn e k) e (x ∷ hs)) b h)
      ∙ ap H (sides e k (x ∷ hs))

  -- "256 for presence"
  pub way_full : (e : ℕ) (k : Bytes) (hs : List Bytes) → has k hs ≡ true → length (way H e k hs) ≡ e
  unfolding way has
  way_full zero k hs h = refl
  way_full (suc e) k [] h = absurd (false≢true h)
  way_full (suc e) k (x ∷ hs) h = ap suc (way_full e k (side (turn e k) e (x ∷ hs)) (has_side k e (x ∷ hs) ∙ h))

  pub way_short : (e : ℕ) (k : Bytes) (hs : List Bytes) → length (way H e k hs) ≤ e
  unfolding way
  way_short zero k hs = omega arith
  way_short (suc e) k [] = omega arith
  way_short (suc e) k (x ∷ hs) = let h = way_short e k (side (turn e k) e (x ∷ hs)) in omega arith

  -- A BUILT PROOF SHOWS THE ROOT of the list it was built from: from the leaf where the list has the handle, from an empty node where not.
  pub shows_root : (k : Bytes) → Row k → (hs : List Bytes) → All Row hs → climbed H 256 k (way H 256 k hs) (cond (has k hs) (H (leaf_msg k)) zeros) ≡ root_of H hs
  shows_root k row hs rs = climb_way 256 k hs (cond (has k hs) (H (leaf_msg k)) zeros) (lowest k (at_end 256 k hs) (only k row hs rs) (has k hs) (end_has 256 k hs))

  -- ---- every node and every sibling has 32 bytes

  module _ (hash_length : (m : Bytes) → length (H m) ≡ 32) where
    pub subtree_length : (e : ℕ) (hs : List Bytes) → length (subtree H e hs) ≡ 32
    unfolding subtree
    subtree_length zero [] = refl
    subtree_length zero (h ∷ hs) = hash_length (leaf_msg h)
    subtree_length (suc e) [] = refl
    subtree_length (suc e) (h ∷ hs) = hash_length _

    pub way_whole : (e : ℕ) (k : Bytes) (hs : List Bytes) → All Whole (way H e k hs)
    unfolding way All
    way_whole zero k hs = tt
    way_whole (suc e) k [] = tt
    way_whole (suc e) k (x ∷ hs) = (subtree_length e (side (not (turn e k)) e (x ∷ hs)), way_whole e k (side (turn e k) e (x ∷ hs)))
