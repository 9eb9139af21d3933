-- The siblings on a key's way over a lent list, counted and written step by step.
use mathlib.Core.Path.{◌≡◌, refl, sym, ap, ap₂, ◌∙◌}
use mathlib.Core.Logic.{◌≢◌}
use mathlib.Core.Bool.{Bool, not}
use mathlib.Core.List.{List, [], ◌∷◌, ◌++◌}
use Prim.Native.Nat.{ℕ, zero, suc, ◌+◌, ◌-◌, ◌*◌, ◌≤◌}
use native.Mathlib.Numerals.{add-one}
use native.Mathlib.Omega.{arith}
use lib.ListN.{length, take, drop}
use Rattle.lists.specs.Bytes.{Bytes}
use Rattle.std.proofs.Common.{append_assoc, drop-drop, length-append}
use Rattle.hash.specs.Hash.{hash_of, hash_length}
use Rattle.rules.specs.Calls.{over}
use Rattle.dictionary.specs.Handles.{turn, side, rows_of, flat}
use Rattle.dictionary.specs.Trie.{subtree, way}
use Rattle.dictionary.proofs.Rows.{rows_none, rows_more, flat_length}
use Rattle.dictionary.proofs.Honest.{subtree_length, way_whole}
use Rattle.trie.specs.Tidy.{Sided}

-- the way of k over the list s, below a node with e levels
abbrev pub way_over : ℕ → Bytes → Bytes → List Bytes
way_over e k s = way hash_of e k (rows_of s)

pub way_none : (e : ℕ) (k s : Bytes) → length s ≡ 0 → way_over e k s ≡ []
unfolding way
way_none e k s h = ap (way hash_of e k) (rows_none s (omega arith)) ∙ none e
  where
    none : (e : ℕ) → way hash_of e k [] ≡ []
    none zero = refl
    none (suc e) = refl

pub way_bottom : (e : ℕ) (k s : Bytes) → e ≡ 0 → way_over e k s ≡ []
unfolding way
way_bottom e k s z = ap (λ (x : ℕ). way hash_of x k (rows_of s)) z

pub way_step : (e : ℕ) (k s r : Bytes) (b : Bool) → e ≢ 0 → 32 ≤ length s → b ≡ turn (e - 1) k → Sided b (e - 1) s r
    → way_over e k s ≡ subtree hash_of (e - 1) (side (not b) (e - 1) (rows_of s)) ∷ way_over (e - 1) k r
unfolding way
way_step e k s r b n h t d =
    let q : e ≡ suc (e - 1) = omega arith in
    ap (λ (x : ℕ). way hash_of x k (rows_of s)) q
    ∙ step (rows_of s) (rows_more s h)
    ∙ ap (λ (l : List Bytes). subtree hash_of (e - 1) (side (not b) (e - 1) (rows_of s)) ∷ way hash_of (e - 1) k l) (sym d.rows)
  where
    step : (hs : List Bytes) {x : Bytes} {l : List Bytes} → hs ≡ x ∷ l → way hash_of (suc (e - 1)) k hs ≡ subtree hash_of (e - 1) (side (not b) (e - 1) hs) ∷ way hash_of (e - 1) k (side b (e - 1) hs)
    step [] q = let z : ◌≡◌ {A = ℕ} 0 1 = cc in absurd (omega arith)
    step (x ∷ l) q = rw t

pub way_some : (e : ℕ) (k s : Bytes) → e ≢ 0 → 32 ≤ length s → 1 ≤ length (way_over e k s)
unfolding way
way_some e k s n h =
    let q : e ≡ suc (e - 1) = omega arith in
    let l : length (way_over e k s) ≡ length (way hash_of (suc (e - 1)) k (take 32 s ∷ rows_of (drop 32 s))) = ap₂ {A = ℕ} {B = List Bytes} {C = ℕ} (λ x y. length (way hash_of x k y)) q (rows_more s h) in
    omega arith

-- one sibling more
pub count_step : {w v : List Bytes} {d : Bytes} (n : ℕ) → w ≡ d ∷ v → n ≡ length v → n + 1 ≡ length w
count_step {w} {v} {d} n e h = add-one n ∙ ap suc h ∙ sym (ap length e)

-- ---- writing

pub put_none : (o : Bytes) (w : List Bytes) → w ≡ [] → o ≡ over (flat w) o
unfolding flat
put_none o w e = sym (ap (λ (l : List Bytes). over (flat l) o) e)

-- a string in front, and another behind it over what is left
over_more : (o d m : Bytes) → length d ≡ 32 → d ++ over m (drop 32 o) ≡ over (d ++ m) o
over_more o d m l =
    let e : 32 + length m ≡ length (d ++ m) = omega (arith, length-append d m) in
    ap (λ (x : Bytes). d ++ (m ++ x)) (drop-drop (length m) 32 o) ∙ sym (append_assoc d m (drop (32 + length m) o)) ∙ ap (λ (n : ℕ). (d ++ m) ++ drop n o) e

pub put_step : (w v : List Bytes) (d o x y : Bytes) → w ≡ d ∷ v → length d ≡ 32 → x ≡ d → y ≡ over (flat v) (drop 32 o) → x ++ y ≡ over (flat w) o
unfolding flat
put_step w v d o x y q l ex ey =
    ap₂ {A = Bytes} {B = Bytes} {C = Bytes} (λ a b. a ++ b) ex ey ∙ over_more o d (flat v) l ∙ sym (ap (λ (u : List Bytes). over (flat u) o) q)

pub node_long : (e : ℕ) (hs : List Bytes) → length (subtree hash_of e hs) ≡ 32
node_long e hs = subtree_length hash_of hash_length e hs

-- ---- the whole proof

pub sized : (k s : Bytes) (n : ℕ) → n ≡ length (way_over 256 k s) → 32 * n ≡ length (flat (way_over 256 k s))
sized k s n h = ap (λ (x : ℕ). 32 * x) h ∙ sym (flat_length (way_over 256 k s) (way_whole hash_of hash_length 256 k (rows_of s)))
