-- A proof of absence ends at the first empty node on the key's way: every node above its end has a handle below it, and the node at its end has none. So
-- no shorter list of siblings leads to an empty node. For any hash H.
use Rattle.std.specs.Prelude.{◌≡◌, refl, ◌≢◌, Bool, false, ◌||◌, List, [], ◌∷◌, ℕ, zero, suc, ◌<◌, length}
use Rattle.std.proofs.Common.{sym, ap, ◌∙◌, true≢false, arith}
use Rattle.lists.specs.Bytes.{Bytes, same}
use Rattle.lists.specs.Same.{same_refl}
use Rattle.dictionary.specs.Handles.{turn, side, has}
use Rattle.dictionary.specs.Trie.{way}
use Rattle.dictionary.proofs.Rows.{All, Row}
use Rattle.dictionary.proofs.Honest.{at_end, end_has, only}

-- the handles below the node that stands i steps down on the way of k
unfoldable pub below : ℕ → ℕ → Bytes → List Bytes → List Bytes
below zero e k hs = hs
below (suc i) zero k hs = hs
below (suc i) (suc e) k hs = below i e k (side (turn e k) e hs)

-- EVERY NODE ABOVE THE END is full.
pub full_above : (H : Bytes → Bytes) (i e : ℕ) (k : Bytes) (hs : List Bytes) → i < length (way H e k hs) → below i e k hs ≢ []
unfolding below way
full_above H i zero k hs h = absurd (omega arith)
full_above H i (suc e) k [] h = absurd (omega arith)
full_above H zero (suc e) k (x ∷ hs) h = λ q. let z : ◌≡◌ {A = ℕ} 0 1 = cc in omega arith
full_above H (suc i) (suc e) k (x ∷ hs) h = full_above H i e k (side (turn e k) e (x ∷ hs)) (omega arith)

-- THE NODE AT THE END is empty, where no handle agrees with k in all bits.
pub empty_at_end : (H : Bytes → Bytes) (e : ℕ) (k : Bytes) (hs : List Bytes) → at_end e k hs ≡ [] → below (length (way H e k hs)) e k hs ≡ []
unfolding below way at_end
empty_at_end H zero k hs h = h
empty_at_end H (suc e) k [] h = refl
empty_at_end H (suc e) k (x ∷ hs) h = empty_at_end H e k (side (turn e k) e (x ∷ hs)) h

-- which is so where the list does not have the handle
pub absent_ends : (H : Bytes → Bytes) (k : Bytes) → Row k → (hs : List Bytes) → All Row hs → has k hs ≡ false → below (length (way H 256 k hs)) 256 k hs ≡ []
unfolding All has
absent_ends H k row hs rs h = empty_at_end H 256 k hs (gone (at_end 256 k hs) (only k row hs rs) (end_has 256 k hs ∙ h))
  where
    gone : (l : List Bytes) → All (λ x. x ≡ k) l → has k l ≡ false → l ≡ []
    gone [] a e = refl
    gone (x ∷ l) a e = absurd (true≢false (sym (ap (λ (y : Bool). y || has k l) (ap (λ (y : Bytes). same y k) a.0 ∙ same_refl k)) ∙ e))
