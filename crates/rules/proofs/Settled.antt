-- Two accepted membership proofs for one (i, n, digest): the entries and the proofs are equal, or the dispute names two different messages with one
-- hash. For any hash H. The proof walks back from n, where both have the given digest.
use Rattle.std.specs.Prelude.{◌≡◌, ◌≢◌, Bool, true, false, ℕ, suc, ◌+◌, ◌^◌, ◌≤◌, take, drop}
use Rattle.std.proofs.Math.Path.{refl, sym, ap}
use Rattle.std.proofs.Common.{ap₂, ◌∙◌, arith, take-append-drop, length-take, length-drop, drop-drop}
use mathlib.Core.List.{List, [], ◌∷◌, ◌++◌}
use Rattle.std.proofs.Math.Option.{Option, none, some}
use Rattle.std.proofs.Math.Nat.{zero-add}
use Rattle.std.proofs.Math.ListN.{length, drop_of_length-le}
use Rattle.lists.specs.Bytes.{Bytes, same}
use Rattle.lists.specs.Same.{same_true, same_false}
use Rattle.rules.specs.Numbers.{Version, entry_limit}
use Rattle.rules.specs.Paths.{after, hops, path, path_after}
use Rattle.rules.specs.Messages.{element_msg, entry_msg, size, total, row, part}
use Rattle.rules.specs.Checking.{accepted, digest_at, walk, member}
use Rattle.rules.specs.Dispute.{unlike, or_else, nearest, messages, dispute}
use Rattle.rules.proofs.Acceptance.{accepts, walk_ended, walk_hopped}
use Rattle.rules.proofs.Verdicts.{element_inj}

-- the published forms of two messages: of one element, or of two entries
pub data Published (v : Version) : Bytes → Bytes → Type 0 where
  elements : (j : ℕ) (a c : Bytes) → length a ≡ size v j → length c ≡ size v j → Published v (element_msg j a) (element_msg j c)
  entries : (a c : Bytes) → length a ≤ entry_limit → length c ≤ entry_limit → Published v (entry_msg a) (entry_msg c)

module _ (H : Bytes → Bytes) (v : Version) where
  -- two messages of a published form that differ and have one hash
  pub record Clash (a c : Bytes) : Type 0 where
    pub published : Published v a c
    pub differs : a ≢ c
    pub collides : H a ≡ H c

  -- what a dispute comes to, where S is what holds if nothing differs
  abbrev pub Settled : Type 0 → Option (Bytes × Bytes) → Type 0
  Settled S none = S
  Settled S (some m) = Clash m.0 m.1

  part_length : (p : Bytes) (o j r : ℕ) → length p ≡ o + (size v j + r) → length (part v p o j) ≡ size v j
  part_length p o j r h = simp (length-take, length-drop) (omega arith)

  -- one step back: what is known after the components for j at o settles what is known before them
  part_step : (r : Option (ℕ × ℕ)) (p q : Bytes) (o j rest : ℕ) {S S' : Type 0} → length p ≡ o + (size v j + rest) → length q ≡ o + (size v j + rest)
      → Settled (S × (digest_at H v p o j ≡ digest_at H v q o j)) (messages v p q r) → (S → part v p o j ≡ part v q o j → S')
      → Settled S' (messages v p q (or_else r (unlike (same (part v p o j) (part v q o j)) (j, o))))
  part_step (some x) p q o j rest lp lq s f = s
  part_step none p q o j rest {S} {S'} lp lq s f = go (same (part v p o j) (part v q o j)) refl
    where
      go : (b : Bool) → same (part v p o j) (part v q o j) ≡ b → Settled S' (messages v p q (unlike b (j, o)))
      go true e = f s.0 (same_true (part v p o j) (part v q o j) e)
      go false e = record {
        published = elements j (part v p o j) (part v q o j) (part_length p o j rest lp) (part_length q o j rest lq);
        differs = λ x. same_false (part v p o j) (part v q o j) e (element_inj j (part v p o j) (part v q o j) x);
        collides = s.1;
      }

  -- the entries, where no component differs
  entry_step : (r : Option (Bytes × Bytes)) (a c : Bytes) (b : Bool) (S : Type 0) → same a c ≡ b → length a ≤ entry_limit → length c ≤ entry_limit
      → Settled (S × (H (entry_msg a) ≡ H (entry_msg c))) r → Settled ((a ≡ c) × S) (or_else r (unlike b (entry_msg a, entry_msg c)))
  entry_step (some m) a c b S e la lc s = s
  entry_step none a c true S e la lc s = (same_true a c e, s.0)
  entry_step none a c false S e la lc s = record { published = entries a c la lc; differs = λ x. same_false a c e (cc); collides = s.1 }

  cut : (p q : Bytes) (o s : ℕ) → drop (o + s) p ≡ drop (o + s) q → take s (drop o p) ≡ take s (drop o q) → drop o p ≡ drop o q
  cut p q o s d t =
      sym (take-append-drop s (drop o p)) ∙ ap₂ {A = Bytes} {B = Bytes} {C = Bytes} (λ a b. a ++ b) t (drop-drop s o p ∙ d ∙ sym (drop-drop s o q)) ∙ take-append-drop s (drop o q)

  -- two accepted walks by the same hops to one digest
  back : (ls : List ℕ) (j : ℕ) (t u p q D : Bytes) (o k m k' m' : ℕ)
      → length p ≡ o + total v (after j ls) → length q ≡ o + total v (after j ls)
      → walk H v j t ls p o D k ≡ accepted m → walk H v j u ls q o D k' ≡ accepted m'
      → Settled ((drop o p ≡ drop o q) × (t ≡ u)) (messages v p q (nearest v (after j ls) p q o))
  unfolding nearest
  back [] j t u p q D o k m k' m' lp lq wp wq = (
    drop_of_length-le p {i = o} (omega arith) ∙ sym (drop_of_length-le q {i = o} (omega arith)),
    (walk_ended H v j t p o D k m wp).0 ∙ sym (walk_ended H v j u q o D k' m' wq).0,
  )
  back (l ∷ ls) j t u p q D o k m k' m' lp lq wp wq =
      let i = j + 2 ^ l in
      let s = size v i in
      let r = total v (after i ls) in
      let gp = walk_hopped H v j t l ls p o D k m wp in
      let gq = walk_hopped H v j u l ls q o D k' m' wq in
      part_step (nearest v (after i ls) p q (o + s)) p q o i r lp lq
      (back ls i (digest_at H v p o i) (digest_at H v q o i) p q D (o + s) (suc k) m (suc k') m' (omega arith) (omega arith) gp.1 gq.1)
      (λ d c. (cut p q o s d c, sym gp.0 ∙ ap (λ (x : Bytes). row v x (suc l)) c ∙ gq.0))

  -- THE DISPUTE THEOREM. Two membership proofs are accepted for one (i, n, digest). Where the dispute names no messages, the entries and the proofs
  -- are the same byte for byte; where it names two, they have a published form, differ, and have one hash.
  pub settled : (e1 e2 : Bytes) (i n : ℕ) (D p1 p2 : Bytes) (m1 m2 : ℕ)
      → member H v e1 i n D p1 ≡ accepted m1 → member H v e2 i n D p2 ≡ accepted m2
      → Settled ((e1 ≡ e2) × (p1 ≡ p2)) (dispute v i n e1 e2 p1 p2)
  unfolding dispute nearest path
  settled e1 e2 i n D p1 p2 m1 m2 h1 h2 =
      let a1 = accepts H v e1 i n D p1 m1 h1 in
      let a2 = accepts H v e2 i n D p2 m2 h2 in
      let r = total v (path_after i n) in
      let l1 : length p1 ≡ size v i + r = a1.sized in
      let l2 : length p2 ≡ size v i + r = a2.sized in
      entry_step (messages v p1 p2 (nearest v (path i n) p1 p2 0)) e1 e2 _ (p1 ≡ p2) refl a1.entry_fits a2.entry_fits
      (part_step (nearest v (path_after i n) p1 p2 (0 + size v i)) p1 p2 0 i r (omega arith) (omega arith)
      (rw zero-add (back (hops i n) i (digest_at H v p1 0 i) (digest_at H v p2 0 i) p1 p2 D (size v i) 0 m1 0 m2 l1 l2 a1.walked a2.walked))
      (λ d c. (cut p1 p2 0 (size v i) d c, sym a1.first ∙ ap (λ (x : Bytes). row v x 0) c ∙ a2.first)))
