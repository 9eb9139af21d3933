-- The messages that a presence and an absence come to, found from the bottom up.
use mathlib.Core.Path.{◌≡◌, refl, sym, ap, ap₂, ◌∙◌}
use mathlib.Core.Bool.{cond}
use mathlib.Core.List.{List, []}
use Prim.Native.Nat.{ℕ, zero, suc, ◌+◌, ◌-◌, ◌*◌, ◌≤◌, ◌<◌}
use native.Mathlib.Omega.{arith}
use lib.ListN.{length, take, drop, drop_of_length-le}
use Rattle.lists.specs.Bytes.{Bytes, same, zeros}
use Rattle.hash.specs.Hash.{hash_of}
use Rattle.dictionary.specs.Handles.{rows_of}
use Rattle.dictionary.specs.Trie.{leaf_msg, crossing}
use Rattle.dictionary.specs.Meeting.{Meets, two, lone, full_msg, meeting}
use Rattle.dictionary.proofs.Rows.{rows_length}
use Rattle.lookup.specs.Climbing.{Sized, depth_of, node_at, row_next}
use Rattle.clash.specs.Found.{meet_of}
use Rattle.clash.specs.declared.meet.Meet.{Meet}

-- a proof of 256 siblings
pub full_sized : (p : Bytes) → length p ≡ 8192 → Sized p
full_sized p e = record { whole = omega arith; most = omega arith }

-- the full way's message at a depth
pub at_leaf : (k p : Bytes) (d : ℕ) → d ≡ 256 → leaf_msg k ≡ full_msg hash_of (256 - d) k (drop d (rows_of p))
unfolding full_msg
at_leaf k p d e = sym (ap (λ (n : ℕ). full_msg hash_of (256 - n) k (drop d (rows_of p))) e)

pub at_inner : (k p own s a leaf : Bytes) (d : ℕ) → Sized p → d < depth_of p → leaf ≡ hash_of (leaf_msg k) → own ≡ node_at k p leaf (d + 1) → s ≡ take 32 (drop (32 * d) p)
    → a ≡ crossing (255 - d) k own s → a ≡ full_msg hash_of (256 - d) k (drop d (rows_of p))
unfolding full_msg
at_inner k p own s a leaf d z h el eo es ea =
    let m = z.most in
    let e : 255 - d ≡ 256 - suc d = omega arith in
    let f : 256 - d ≡ suc (256 - suc d) = omega arith in
    let g : d + 1 ≡ suc d = omega arith in
    ea
    ∙ ap (λ (x : ℕ). crossing x k own s) e
    ∙ ap₂ (λ (x y : Bytes). crossing (256 - suc d) k x y) (eo ∙ ap₂ {A = Bytes} {B = ℕ} {C = Bytes} (λ x n. node_at k p x n) el g) es
    ∙ sym (ap₂ {A = ℕ} {B = List Bytes} {C = Bytes} (λ x l. full_msg hash_of x k l) f (row_next p d h))

-- ---- from the bottom up

pub record Stands (k p q : Bytes) (d : ℕ) (full empty : Bytes) (w : Meet) : Type 0 where
  pub below : d ≤ depth_of q
  pub full_is : full ≡ node_at k p (hash_of (leaf_msg k)) d
  pub empty_is : empty ≡ node_at k q zeros d
  pub found : meet_of w ≡ meeting hash_of (256 - d) k (drop d (rows_of p)) (drop d (rows_of q))

ended : (e : ℕ) (k : Bytes) (ss : List Bytes) → lone (full_msg hash_of e k ss) ≡ meeting hash_of e k ss []
unfolding meeting full_msg
ended zero k ss = refl
ended (suc e) k ss = refl

pub begins : (k p q full leaf : Bytes) (w : Meet) → leaf ≡ hash_of (leaf_msg k) → full ≡ node_at k p leaf (depth_of q) → zeros ≡ node_at k q zeros (depth_of q)
    → meet_of w ≡ lone (full_msg hash_of (256 - depth_of q) k (drop (depth_of q) (rows_of p))) → Stands k p q (depth_of q) full zeros w
begins k p q full leaf w el ef ee h =
    let n : drop (depth_of q) (rows_of q) ≡ [] = drop_of_length-le (rows_of q) {i = depth_of q} (omega (arith, rows_length (depth_of q) q)) in
    record {
      below = omega arith;
      full_is = ef ∙ ap (λ (x : Bytes). node_at k p x (depth_of q)) el;
      empty_is = ee;
      found = h ∙ ended (256 - depth_of q) k (drop (depth_of q) (rows_of p)) ∙ sym (ap (meeting hash_of (256 - depth_of q) k (drop (depth_of q) (rows_of p))) n);
    }

-- one depth up: the two messages there, or what was found below
pub meet_step : (k p q full empty s r a b : Bytes) (d : ℕ) (m : Meets) → Sized p → Sized q → d < depth_of p → d < depth_of q
    → full ≡ node_at k p (hash_of (leaf_msg k)) (suc d) → empty ≡ node_at k q zeros (suc d) → s ≡ take 32 (drop (32 * d) p) → r ≡ take 32 (drop (32 * d) q)
    → a ≡ crossing (255 - d) k full s → b ≡ crossing (255 - d) k empty r → m ≡ meeting hash_of (256 - suc d) k (drop (suc d) (rows_of p)) (drop (suc d) (rows_of q))
    → cond (same a b) m (two a b) ≡ meeting hash_of (256 - d) k (drop d (rows_of p)) (drop d (rows_of q))
unfolding meeting
meet_step k p q full empty s r a b d m zp zq hp hq ef ee es er ea eb em =
    let most = zp.most in
    let e : 255 - d ≡ 256 - suc d = omega arith in
    let f : 256 - d ≡ suc (256 - suc d) = omega arith in
    let a_is : a ≡ crossing (256 - suc d) k (node_at k p (hash_of (leaf_msg k)) (suc d)) (take 32 (drop (32 * d) p)) = ea ∙ ap (λ (x : ℕ). crossing x k full s) e ∙ ap₂ (crossing (256 - suc d) k) ef es in
    let b_is : b ≡ crossing (256 - suc d) k (node_at k q zeros (suc d)) (take 32 (drop (32 * d) q)) = eb ∙ ap (λ (x : ℕ). crossing x k empty r) e ∙ ap₂ (crossing (256 - suc d) k) ee er in
    ap (λ (x : Meets). cond (same a b) x (two a b)) em
    ∙ ap₂ (λ (x y : Bytes). cond (same x y) (meeting hash_of (256 - suc d) k (drop (suc d) (rows_of p)) (drop (suc d) (rows_of q))) (two x y)) a_is b_is
    ∙ sym (ap (λ (x : ℕ). meeting hash_of x k (drop d (rows_of p)) (drop d (rows_of q))) f
    ∙ ap₂ {A = List Bytes} {B = List Bytes} {C = Meets} (meeting hash_of (suc (256 - suc d)) k) (row_next p d hp) (row_next q d hq))
