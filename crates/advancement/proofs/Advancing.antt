-- The walk of an advancement, hop by hop: where it stands, what a good hop makes of it, and what ends it.
use mathlib.Core.Path.{◌≡◌, refl, sym, ap, ap₂, ◌∙◌}
use mathlib.Core.Bool.{Bool, true, false, cond}
use mathlib.Core.List.{List}
use Prim.Native.Nat.{ℕ, suc, ◌+◌, ◌/◌, ◌^◌, ◌≤◌, ◌<◌}
use native.Mathlib.Nat.{zero-add}
use native.Mathlib.Numerals.{add-one}
use native.Mathlib.Omega.{arith}
use lib.Pow.{pow_pos, lt_of_le_ones}
use lib.ListN.{length, drop}
use Rattle.lists.specs.Bytes.{Bytes, same}
use Rattle.hash.specs.Hash.{hash_of}
use Rattle.rules.specs.Numbers.{v1, limit}
use Rattle.rules.specs.Paths.{level, hops, path_after}
use Rattle.rules.specs.Messages.{size, total, row, part}
use Rattle.rules.specs.Refusals.{row_differs, link_differs, digest_differs}
use Rattle.rules.specs.Held.{Held}
use Rattle.rules.specs.Checking.{Verdict, place, accepted, refused, must_at, must, agrees, off_row, hopped, advance_walk}
use Rattle.rules.specs.Calls.{advance_answer}
use Rattle.rules.proofs.Hops.{level_hop, level_below, hops_step}
use Rattle.rules.proofs.Bounds.{total_first, total_after_step}
use Rattle.rules.proofs.Walking.{advance_walk_end}
use Rattle.std.specs.Prelude.{Option, None, Some}
use Rattle.held.specs.Rows.{rows_say}
use Rattle.advancement.specs.declared.Hop.{Hop}
use Rattle.advancement.specs.declared.Hop.TheVariants.{Good, Row, Link}
use Rattle.messages.specs.Parts.{part_length}
use Rattle.advancement.specs.Advancing.{answer_of, Step, Ready, hop_by, hop_of, verdict_by}

-- what a hop's verdict makes of the walk that goes on from it, with k hops good before it
judged : Hop → ℕ → Verdict (ℕ × Held) → Verdict (ℕ × Held)
judged Good k w = w
judged (Row j c) k w = refused row_differs k (place j c)
judged (Link j l) k w = refused link_differs k (place j l)

-- where the walk to n through p stands: at h, with the next component at o and k hops good; h₀ is where it began
pub record Stands (n : ℕ) (p D : Bytes) (h₀ h : Held) (o k : ℕ) : Type 0 where
  pub walk : advance_walk hash_of v1 h₀ (hops h₀.count n) p 0 D 0 ≡ advance_walk hash_of v1 h (hops h.count n) p o D k
  pub low : h.count ≤ n
  pub room : o + total v1 (path_after h.count n) ≡ length p
  pub few : k ≤ h.count

pub begins : (n : ℕ) (p D : Bytes) (h : Held) → h.count ≤ n → length p ≡ total v1 (path_after h.count n) → Stands n p D h h 0 0
begins n p D h low e = record { walk = refl; low = low; room = zero-add _ ∙ sym e; few = omega arith }

-- ---- the next hop from h toward n, whose component stands at o in p

abbrev pub toward : Held → ℕ → ℕ
toward h n = h.count + 2 ^ level h.count n

abbrev pub hop_at : ℕ → Bytes → Held → ℕ → Step
hop_at n p h o = hop_of h (level h.count n) (part v1 p o (toward h n))

-- the walk by it
next_hop : (n : ℕ) (p D : Bytes) (h : Held) (o k : ℕ) → h.count < n → advance_walk hash_of v1 h (hops h.count n) p o D k
    ≡ judged (hop_at n p h o).verdict k (advance_walk hash_of v1 (hop_at n p h o).state (hops (toward h n) n) p (o + size v1 (toward h n)) D (suc k))
unfolding advance_walk hop_of judged rows_say
next_hop n p D h o k b =
    ap (λ (ls : List ℕ). advance_walk hash_of v1 h ls p o D k) (hops_step h.count n b)
    ∙ go (agrees v1 l (h.count / 2 ^ l) (drop l h.rows) x) (same (row v1 x (suc l)) h.digest)
  where
    l : ℕ
    l = level h.count n

    x : Bytes
    x = part v1 p o (toward h n)

    rest : Held → Verdict (ℕ × Held)
    rest g = advance_walk hash_of v1 g (hops (toward h n) n) p (o + size v1 (toward h n)) D (suc k)

    -- the row that the rules name
    off : ℕ
    off = off_row v1 l (drop l h.rows) x

    go : (b t : Bool) → must_at (place (toward h n) off) b row_differs k (must_at (place (toward h n) l) t link_differs k (rest (hopped hash_of v1 h l p o)))
        ≡ judged (hop_by h l x (cond b None (Some off)) t).verdict k (rest (hop_by h l x (cond b None (Some off)) t).state)
    go true true = refl
    go true false = refl
    go false t = refl

-- a good one ends there
good_count : (h : Held) (l : ℕ) (x : Bytes) → (hop_of h l x).verdict ≡ Good → (hop_of h l x).state.count ≡ h.count + 2 ^ l
unfolding hop_of
good_count h l x = go (rows_say l (h.count / 2 ^ l) (drop l h.rows) x) (same (row v1 x (suc l)) h.digest)
  where
    go : (r : Option ℕ) (t : Bool) → (hop_by h l x r t).verdict ≡ Good → (hop_by h l x r t).state.count ≡ h.count + 2 ^ l
    go None true e = refl
    go None false e = absurd (let z : ◌≡◌ {A = ℕ} 0 1 = cc in omega arith)
    go (Some c) t e = absurd (let z : ◌≡◌ {A = ℕ} 0 1 = cc in omega arith)

-- ---- a turn of the walk

module _ {n : ℕ} {p D : Bytes} {h₀ h : Held} {o k : ℕ} (s : Stands n p D h₀ h o k) where
  module _ (b : h.count < n) where
    -- the component lies in p
    pub inside : o + size v1 (toward h n) ≤ length p
    inside = omega (arith, s.room, total_after_step v1 h.count n b, total_first v1 (toward h n) n)

    -- the code finds the level l and the end m, and reads x there: it is ready for the hop, and the hop is this one
    module _ {l m : ℕ} {x : Bytes} (el : l ≡ level h.count n) (em : m ≡ toward h n) (ex : x ≡ part v1 p o m) where
      pub long : length x ≡ size v1 (toward h n)
      long = ap length ex ∙ rw em (part_length p o (toward h n) inside)

      pub ready : n ≤ limit v1 → Ready h l m x
      ready top =
          let hop = level_hop h.count n b in
          let q = level_below (level h.count n) v1.levels n (omega (arith, hop.reaches)) (lt_of_le_ones v1.levels top) in
          rw el (record { small = omega arith; divides = hop.divides; ends = em; long = long })

      pub taken : {q : Step} → q ≡ hop_of h l x → q ≡ hop_at n p h o
      taken e = e ∙ ap₂ (λ (i : ℕ) (y : Bytes). hop_of h i y) el (ex ∙ ap (λ (i : ℕ). part v1 p o i) em)

    -- after a good hop
    pub goes_on : {q : Step} → q ≡ hop_at n p h o → q.verdict ≡ Good → Stands n p D h₀ q.state (o + size v1 (toward h n)) (k + 1) × (h.count < q.state.count)
    unfolding judged
    goes_on {q} e g =
        let good : (hop_at n p h o).verdict ≡ Good = ap (λ (x : Step). x.verdict) (sym e) ∙ g in
        let count : toward h n ≡ q.state.count = sym (good_count h (level h.count n) _ good) ∙ ap (λ (x : Step). x.state.count) (sym e) in
        let rest : Held → ℕ → Verdict (ℕ × Held) = λ g m. advance_walk hash_of v1 g (hops m n) p (o + size v1 (toward h n)) D (suc k) in
        let hop = level_hop h.count n b in
        let pos = pow_pos (level h.count n) in (
          record {
            walk = s.walk
                ∙ next_hop n p D h o k b
                ∙ ap (λ (v : Hop). judged v k (rest (hop_at n p h o).state (toward h n))) good
                ∙ ap (λ (x : Step). rest x.state (toward h n)) (sym e)
                ∙ ap (λ (m : ℕ). rest q.state m) count
                ∙ ap (λ (m : ℕ). advance_walk hash_of v1 q.state (hops q.state.count n) p (o + size v1 (toward h n)) D m) (sym (add-one k));
            low = rw (← count) hop.reaches;
            room = rw (← count) (omega (arith, s.room, total_after_step v1 h.count n b, total_first v1 (toward h n) n));
            few = rw (← count) (omega (arith, s.few));
          },
          rw (← count) (omega arith),
        )

    -- a bad hop decides
    pub refuses : {q : Step} → q ≡ hop_at n p h o → (q.verdict ≡ Good → ⊥)
        → advance_answer h₀ (advance_walk hash_of v1 h₀ (hops h₀.count n) p 0 D 0) ≡ record { answer = answer_of (verdict_by q.verdict k); held = h₀ }
    unfolding judged
    refuses {q} e bad = ap (advance_answer h₀) (s.walk ∙ next_hop n p D h o k b ∙ ap (λ (x : Step). judged x.verdict k w) (sym e)) ∙ go q.verdict bad
      where
        w : Verdict (ℕ × Held)
        w = advance_walk hash_of v1 (hop_at n p h o).state (hops (toward h n) n) p (o + size v1 (toward h n)) D (suc k)

        go : (v : Hop) → (v ≡ Good → ⊥) → advance_answer h₀ (judged v k w) ≡ record { answer = answer_of (verdict_by v k); held = h₀ }
        go Good t = absurd (t refl)
        go (Row j c) t = refl
        go (Link j c) t = refl

  -- at n the last digest decides
  pub arrives : n ≤ h.count → advance_walk hash_of v1 h₀ (hops h₀.count n) p 0 D 0 ≡ must (same h.digest D) digest_differs k (accepted (k, h))
  arrives b = s.walk ∙ advance_walk_end hash_of v1 h n p o D k (let l = s.low in omega arith)
