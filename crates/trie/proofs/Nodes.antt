-- A node over a lent list, by its rows: empty, a leaf, or over the two sides of the list.
use Rattle.std.proofs.Common.{◌≡◌, refl, sym, ap, ap₂, ◌∙◌, List, [], ◌∷◌, ℕ, zero, suc, ◌-◌, arith, drop}
use Rattle.std.specs.Prelude.{◌≢◌, true, false, Some, None}
use Rattle.std.specs.List.{slice_get}
use Rattle.lists.specs.Bytes.{Bytes, zeros}
use Rattle.hash.specs.Hash.{hash_of}
use Rattle.dictionary.specs.Handles.{side, rows_of}
use Rattle.dictionary.specs.Trie.{leaf_msg, inner_msg, subtree}
use Rattle.trie.specs.Tidy.{Sided}

-- what the first row tells of all of them
pub no_rows : (hs : List Bytes) → None ≡ slice_get hs 0 → hs ≡ []
no_rows [] e = refl
no_rows (h ∷ hs) e = cc

pub first_row : (hs : List Bytes) (r : Bytes) → Some r ≡ slice_get hs 0 → hs ≡ r ∷ drop 1 hs
first_row [] r e = cc
first_row (h ∷ hs) r e = cc

pub node_empty : (e : ℕ) (hs : List Bytes) → hs ≡ [] → zeros ≡ subtree hash_of e hs
unfolding subtree
node_empty e hs h = none e ∙ sym (ap (subtree hash_of e) h)
  where
    none : (e : ℕ) → zeros ≡ subtree hash_of e []
    none zero = refl
    none (suc e) = refl

pub node_leaf : (e : ℕ) (hs l : List Bytes) (r : Bytes) → e ≡ 0 → hs ≡ r ∷ l → hash_of (leaf_msg r) ≡ subtree hash_of e hs
unfolding subtree
node_leaf e hs l r z h = sym (ap₂ {A = ℕ} {B = List Bytes} {C = Bytes} (subtree hash_of) z h)

pub node_inner : (e : ℕ) (s r0 r1 left right r : Bytes) (l : List Bytes) → e ≢ 0 → rows_of s ≡ r ∷ l → Sided false (e - 1) s r0 → Sided true (e - 1) s r1
    → left ≡ subtree hash_of (e - 1) (rows_of r0) → right ≡ subtree hash_of (e - 1) (rows_of r1) → hash_of (inner_msg left right) ≡ subtree hash_of e (rows_of s)
unfolding subtree
node_inner e s r0 r1 left right r l n h s0 s1 el er =
    let k : e ≡ suc (e - 1) = omega arith in
    ap₂ (λ (x y : Bytes). hash_of (inner_msg x y)) (el ∙ ap (subtree hash_of (e - 1)) s0.rows) (er ∙ ap (subtree hash_of (e - 1)) s1.rows)
    ∙ step (rows_of s) h
    ∙ ap (λ (x : ℕ). subtree hash_of x (rows_of s)) (sym k)
  where
    step : (hs : List Bytes) {x : Bytes} {l : List Bytes} → hs ≡ x ∷ l
        → hash_of (inner_msg (subtree hash_of (e - 1) (side false (e - 1) hs)) (subtree hash_of (e - 1) (side true (e - 1) hs))) ≡ subtree hash_of (suc (e - 1)) hs
    step [] q = let z : ◌≡◌ {A = ℕ} 0 1 = cc in absurd (omega arith)
    step (x ∷ l) q = refl
