-- A proof from the bottom up: the node at each depth on the way, from the siblings below it.
use Rattle.std.specs.Prelude.{◌≡◌, refl, List, [], ◌∷◌, ℕ, zero, suc, ◌+◌, ◌-◌, ◌*◌, ◌/◌, ◌%◌, ◌≤◌, ◌<◌, length, get_or, take, drop}
use Rattle.std.proofs.Common.{sym, ap, ap₂, ◌∙◌, arith, drop_of_length-le, get_or-drop}
use Rattle.lists.specs.Bytes.{Bytes}
use Rattle.hash.specs.Hash.{hash_of}
use Rattle.dictionary.specs.Handles.{rows_of}
use Rattle.dictionary.specs.Trie.{crossing, climbed}
use Rattle.dictionary.proofs.Rows.{rows_at, rows_length}

-- a proof of whole siblings, at most 256 of them
pub record Sized (p : Bytes) : Type 0 where
  pub whole : length p % 32 ≡ 0
  pub most : length p ≤ 8192

-- how many siblings it has: the depth of the node at their end
abbrev pub depth_of : Bytes → ℕ
depth_of p = length p / 32

-- the node at depth d, on the way of k, by the proof p from the node b at its end
abbrev pub node_at : Bytes → Bytes → Bytes → ℕ → Bytes
node_at k p b d = climbed hash_of (256 - d) k (drop d (rows_of p)) b

-- a sibling, and those below it
pub row_next : (p : Bytes) (d : ℕ) → d < depth_of p → drop d (rows_of p) ≡ take 32 (drop (32 * d) p) ∷ drop (suc d) (rows_of p)
row_next p d h = rows_at p d (omega arith)

pub row_got : (p : Bytes) (d : ℕ) (x : Bytes) → d < depth_of p → get_or (rows_of p) d x ≡ take 32 (drop (32 * d) p)
row_got p d x h =
    let e : d ≡ d + 0 = omega arith in
    ap (λ (n : ℕ). get_or (rows_of p) n x) e ∙ sym (get_or-drop d (rows_of p) 0 x) ∙ ap (λ (l : List Bytes). get_or l 0 x) (row_next p d h)

pub at_bottom : (k p b : Bytes) → b ≡ node_at k p b (depth_of p)
unfolding climbed
at_bottom k p b =
    sym (ap (λ (x : List Bytes). climbed hash_of (256 - depth_of p) k x b) (drop_of_length-le (rows_of p) {i = depth_of p} (omega (arith, rows_length (depth_of p) p)))
    ∙ none (256 - depth_of p))
  where
    none : (e : ℕ) → climbed hash_of e k [] b ≡ b
    none zero = refl
    none (suc e) = refl

-- one depth up
pub up_one : (k p b own s : Bytes) (d : ℕ) → Sized p → d < depth_of p → s ≡ take 32 (drop (32 * d) p) → own ≡ node_at k p b (suc d) → hash_of (crossing (255 - d) k own s) ≡ node_at k p b d
unfolding climbed
up_one k p b own s d z h es eo =
    let m = z.most in
    let e : 255 - d ≡ 256 - suc d = omega arith in
    let f : 256 - d ≡ suc (256 - suc d) = omega arith in
    ap (λ (x : ℕ). hash_of (crossing x k own s)) e
    ∙ ap₂ (λ (x y : Bytes). hash_of (crossing (256 - suc d) k x y)) eo es
    ∙ sym (ap₂ {A = ℕ} {B = List Bytes} {C = Bytes} (λ x l. climbed hash_of x k l b) f (row_next p d h))
