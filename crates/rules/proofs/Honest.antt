-- Membership proofs made of digests that obey the rules are accepted, for any hash H.
use Rattle.std.specs.Prelude.{◌≡◌, true}
use Rattle.std.proofs.Math.Path.{refl, ap, ap₂}
use Rattle.std.proofs.Common.{sym, ◌∙◌, zero-add, not-suc-le-zero, le_of_suc-le-suc, le_trans, pow_pos, length-drop, drop-drop, take_at, drop_at, eq-eqb, le-leb}
use mathlib.Core.List.{List, [], ◌∷◌, ◌++◌, append_assoc}
use Prim.Native.Nat.{ℕ, zero, suc, ◌+◌, ◌-◌, ◌*◌, ◌^◌, ◌≤◌, ◌<◌, suc-le-suc}
use Rattle.std.proofs.Math.Nat.{add-zero}
use native.Mathlib.Omega.{arith}
use Rattle.std.proofs.Math.ListN.{length, take, drop, length-append}
use Rattle.std.proofs.Math.Seq.{drop-append-add}
use Rattle.std.proofs.lemmas.List.{drop-append-le}
use Rattle.lists.specs.Bytes.{Bytes}
use Rattle.lists.specs.Same.{same_refl, same_eq}
use Rattle.rules.specs.Numbers.{Version, entry_limit}
use Rattle.rules.specs.Paths.{tz, after, hops, path, path_after}
use Rattle.rules.specs.Messages.{element_msg, entry_msg, size, total, row, part, links, component, components, membership_proof, Lawful}
use Rattle.rules.specs.Refusals.{too_long, no_such_number, wrong_length, other_entry, link_differs}
use Rattle.rules.specs.Checking.{accepted, between, digest_at, walk, member}
use Rattle.rules.proofs.Verdicts.{must_at_go, must_go, between_true}
use Rattle.rules.proofs.Hops.{hop_tz, end, Rides, hops_ride, end_le}

-- ---- the rows of a component

module _ (T : ℕ → Bytes) (j : ℕ) (lt : (i : ℕ) → i ≤ j → length (T i) ≡ 32) where
  -- k links have 32 k bytes.
  pub links_length : (k c : ℕ) → length (links T j c k) ≡ 32 * k
  unfolding links
  links_length zero c = refl
  links_length (suc k) c = simp length-append (let a = lt (j - 2 ^ c) (omega arith) in let b = links_length k (suc c) in omega arith)

  -- The one of level l is T(j - 2^l).
  link_of : (l k c : ℕ) → l < k → take 32 (drop (32 * l) (links T j c k)) ≡ T (j - 2 ^ (c + l))
  unfolding links
  link_of l zero c h = absurd (not-suc-le-zero h)
  link_of zero (suc k) c h = rw add-zero (take_at (T (j - 2 ^ c)) _ 32 (lt (j - 2 ^ c) (omega arith)))
  link_of (suc l) (suc k) c h =
      let a = T (j - 2 ^ c) in
      let e : 32 * suc l ≡ 32 + 32 * l = omega arith in
      let r = links T j (suc c) k in
      rw e (ap (λ (x : Bytes). take 32 x) (sym (drop-drop (32 * l) 32 (a ++ r)) ∙ ap (λ (x : Bytes). drop (32 * l) x) (drop_at a r 32 (lt (j - 2 ^ c) (omega arith))))
      ∙ link_of l k (suc c) (le_of_suc-le-suc h) ∙ ap (λ (x : ℕ). T (j - 2 ^ x)) (let q : suc c + l ≡ c + suc l = omega arith in q))

-- d stands behind the bytes before it
first_row : (v : Version) (b x : Bytes) → length b ≡ v.before + 32 → row v (b ++ x) 0 ≡ drop v.before b
first_row v b x h =
    rw (add-zero v.before) (ap (λ (y : Bytes). take 32 y) (drop-append-le v.before b x (omega arith)) ∙ take_at (drop v.before b) x 32 (length-drop v.before b ∙ omega arith))

-- ---- components and proofs of digests that obey the rules

module _ (H : Bytes → Bytes) (v : Version) (body T : ℕ → Bytes) (n : ℕ) (L : Lawful H v body T n) where
  -- "32(f + 2) bytes", and those before d
  pub component_length : (j : ℕ) → 1 ≤ j → j ≤ n → length (component body T j) ≡ size v j
  component_length j h k =
      let a = L.body_length j h k in
      let b = links_length T j (λ i g. L.digest_length i (le_trans g k)) (suc (tz j)) 0 in
      length-append (body j) (links T j 0 (suc (tz j))) ∙ omega arith

  -- Row l + 1 of the component of j is T(j - 2^l).
  pub component_link : (j l : ℕ) → 1 ≤ j → j ≤ n → l ≤ tz j → row v (component body T j) (suc l) ≡ T (j - 2 ^ l)
  component_link j l h k f =
      let e : v.before + 32 * suc l ≡ length (body j) + 32 * l = let a = L.body_length j h k in omega arith in
      rw e (ap (λ (x : Bytes). take 32 x) (drop-append-add (body j) (links T j 0 (suc (tz j))) (32 * l))
      ∙ link_of T j (λ i g. L.digest_length i (le_trans g k)) l (suc (tz j)) 0 (suc-le-suc f) ∙ ap (λ (x : ℕ). T (j - 2 ^ x)) (zero-add l))

  -- Where the bytes before it are o, the part for j at o is the component of j.
  pub part_is_lem : (pre rest : Bytes) (o j : ℕ) → length pre ≡ o → 1 ≤ j → j ≤ n → part v (pre ++ (component body T j ++ rest)) o j ≡ component body T j
  part_is_lem pre rest o j e h k = ap (λ (x : Bytes). take (size v j) x) (drop_at pre _ o e) ∙ take_at (component body T j) rest (size v j) (component_length j h k)

  -- Its hash is T(j).
  pub digest_is : (p : Bytes) (o j : ℕ) → 1 ≤ j → j ≤ n → part v p o j ≡ component body T j → digest_at H v p o j ≡ T j
  digest_is p o j h k e = ap (λ (x : Bytes). H (element_msg j x)) e ∙ sym (L.hashed j h k)

  -- Components behind the hops have the length that the path asks for.
  pub components_length : (ls : List ℕ) (j : ℕ) → end j ls ≤ n → length (components body T (after j ls)) ≡ total v (after j ls)
  components_length [] j h = refl
  components_length (l ∷ ls) j h =
      let i = j + 2 ^ l in
      let pos = pow_pos l in
      length-append (component body T i) (components body T (after i ls))
      ∙ ap₂ (λ (x y : ℕ). x + y) (component_length i (omega arith) (le_trans (end_le ls i) h)) (components_length ls i h)

  -- what one hop of level l from j finds in a proof that has the component of its end at o
  pub record Met (j l : ℕ) (p : Bytes) (o : ℕ) : Type 0 where
    pub low : 1 ≤ j + 2 ^ l
    pub high : j + 2 ^ l ≤ n
    pub there : part v p o (j + 2 ^ l) ≡ component body T (j + 2 ^ l)
    pub link : row v (part v p o (j + 2 ^ l)) (suc l) ≡ T j
    pub hashed : digest_at H v p o (j + 2 ^ l) ≡ T (j + 2 ^ l)

  -- An honest proof has that component there, with the link and the hash that the rules give.
  pub met : (j l : ℕ) (ls : List ℕ) (pre : Bytes) (o : ℕ) → length pre ≡ o → Rides j (l ∷ ls) → end j (l ∷ ls) ≤ n
      → Met j l (pre ++ components body T (after j (l ∷ ls))) o
  met j l ls pre o e r h =
      let i = j + 2 ^ l in
      let pos = pow_pos l in
      let lo : 1 ≤ i = omega arith in
      let hi : i ≤ n = le_trans (end_le ls i) h in
      let sub : i - 2 ^ l ≡ j = omega arith in
      let p = pre ++ components body T (after j (l ∷ ls)) in
      let at : part v p o i ≡ component body T i = part_is_lem pre (components body T (after i ls)) o i e lo hi in
      record {
        low = lo;
        high = hi;
        there = at;
        link = ap (λ (x : Bytes). row v x (suc l)) at ∙ component_link i l lo hi (hop_tz j l r.0 r.1) ∙ ap T sub;
        hashed = digest_is p o i lo hi at;
      }

  -- the next component stands behind this one
  pub onward : (j l : ℕ) (pre : Bytes) (o : ℕ) → length pre ≡ o → 1 ≤ j + 2 ^ l → j + 2 ^ l ≤ n → length (pre ++ component body T (j + 2 ^ l)) ≡ o + size v (j + 2 ^ l)
  onward j l pre o e lo hi = length-append pre (component body T (j + 2 ^ l)) ∙ ap₂ (λ (x y : ℕ). x + y) e (component_length (j + 2 ^ l) lo hi)

  honest_walk : (ls : List ℕ) (j : ℕ) (pre : Bytes) (o k : ℕ) → length pre ≡ o → Rides j ls → end j ls ≤ n
      → walk H v j (T j) ls (pre ++ components body T (after j ls)) o (T (end j ls)) k ≡ accepted (k + length ls)
  unfolding walk
  honest_walk [] j pre o k e r h = rw (same_refl (T j), add-zero k)
  honest_walk (l ∷ ls) j pre o k e r h =
      let i = j + 2 ^ l in
      let c = component body T i in
      let rest = components body T (after i ls) in
      let m = met j l ls pre o e r h in
      must_at_go _ _ link_differs k _ (same_eq _ (T j) m.link)
      ∙ ap₂ (λ (t p : Bytes). walk H v i t ls p (o + size v i) (T (end i ls)) (suc k)) m.hashed (sym (append_assoc pre c rest))
      ∙ honest_walk ls i (pre ++ c) (o + size v i) (suc k) (onward j l pre o e m.low m.high) r.2 h
      ∙ ap accepted (omega arith)

  -- HONEST MEMBERSHIP PROOFS ARE ACCEPTED, with the path's hops, for the entry whose digest is the element's d.
  pub honest_member : (i : ℕ) (e : Bytes) → length e ≤ entry_limit → between v i n ≡ true → drop v.before (body i) ≡ H (entry_msg e)
      → member H v e i n (T n) (membership_proof body T i n) ≡ accepted (length (hops i n))
  unfolding member path
  honest_member i e le b d =
      let h = between_true v i n b in
      let lo = h.0 in
      let hi = h.1 in
      let c = component body T i in
      let rest = components body T (path_after i n) in
      let ride = hops_ride i n hi in
      let en : end i (hops i n) ≤ n = omega (arith, ride.1) in
      let at : part v (c ++ rest) 0 i ≡ c = part_is_lem [] rest 0 i refl lo hi in
      let len : length (c ++ rest) ≡ size v i + total v (path_after i n) = length-append c rest ∙ ap₂ (λ (x y : ℕ). x + y) (component_length i lo hi) (components_length (hops i n) i en) in
      let first : row v (part v (c ++ rest) 0 i) 0 ≡ H (entry_msg e) =
      ap (λ (x : Bytes). row v x 0) at ∙ first_row v (body i) _ (L.body_length i lo hi) ∙ d in
      must_go _ too_long 0 _ (le-leb (length e) entry_limit le)
      ∙ must_go _ no_such_number 0 _ b
      ∙ must_go _ wrong_length 0 _ (eq-eqb (length (c ++ rest)) _ len)
      ∙ must_go _ other_entry 0 _ (same_eq _ _ first)
      ∙ ap₂ (λ (t : Bytes) (x : ℕ). walk H v i t (hops i n) (c ++ rest) (size v i) (T x) 0) (digest_is (c ++ rest) 0 i lo hi at) (sym ride.1)
      ∙ honest_walk (hops i n) i c (size v i) 0 (component_length i lo hi) ride.0 en
      ∙ ap accepted (zero-add (length (hops i n)))
