-- Proofs, written component by component. In a store that is in order each stored digest has its 32 bytes, so components have the lengths that
-- the path asks for, whether the digests obey the rules or not.
use mathlib.Core.Path.{◌≡◌, refl, sym, ap, ap₂, ◌∙◌}
use mathlib.Core.List.{List, [], ◌∷◌, ◌++◌}
use Prim.Native.Nat.{ℕ, suc, ◌+◌, ◌*◌, ◌^◌, ◌≤◌, ◌<◌, zero-le}
use native.Mathlib.Nat.{le_trans, zero-add}
use native.Mathlib.Omega.{arith}
use lib.Pow.{pow_pos}
use lib.ListN.{length, drop, length-append}
use lib.Seq.{paste, paste-zero}
use Rattle.lists.specs.Bytes.{Bytes}
use Rattle.rules.specs.Numbers.{Version}
use Rattle.rules.specs.Paths.{tz, level, after, path, path_after}
use Rattle.rules.specs.Messages.{size, total, links, components}
use Rattle.rules.specs.Store.{place, body_of, t_of}
use Rattle.rules.specs.Calls.{over}
use Rattle.rules.proofs.Hops.{hops_ind, after_step, after_end, level_hop}
use Rattle.rules.proofs.Places.{place_mono}
use Rattle.rules.proofs.Stored.{body_length}
use Rattle.rules.proofs.Bounds.{total_first, total_after_step}
use Rattle.lists.specs.Pasting.{paste_all, paste_more}
use Rattle.layout.specs.Linking.{linked_length}
use Rattle.build.specs.Parts.{component_in, membership_in, advancement_in}

-- All of a proof, pasted at the start, stands over what was there.
paste_over : (proof out : Bytes) (n : ℕ) → length proof ≡ n → paste out 0 proof n ≡ over proof out
paste_over proof out n e = paste_all out proof 0 n e ∙ ap (λ (k : ℕ). proof ++ drop k out) (zero-add n ∙ sym e)

-- ---- a hop of the path

-- what is known where the hop from j toward n ends at k
pub record Hopped (v : Version) (j n k : ℕ) : Type 0 where
  pub up : j < k
  pub inside : k ≤ n
  pub takes : total v (path_after j n) ≡ size v k + total v (path_after k n)

pub hopped : (v : Version) (j n k : ℕ) → j < n → k ≡ j + 2 ^ level j n → Hopped v j n k
hopped v j n k h e =
    let pos = pow_pos (level j n) in
    let r = (level_hop j n h).reaches in
    record { up = omega arith; inside = omega arith; takes = rw e (total_after_step v j n h ∙ total_first v (j + 2 ^ level j n) n) }

module _ (H : Bytes → Bytes) (hash_length : (m : Bytes) → length (H m) ≡ 32) (v : Version) (s : Bytes) where
  -- ---- one component

  component_sized : (j : ℕ) → 1 ≤ j → place v j ≤ length s → length (component_in H v s j) ≡ size v j
  component_sized j h fits =
      let a = body_length v s j h fits in
      let b = linked_length H hash_length v s j fits (suc (tz j)) in
      length-append (body_of v s j) (links (t_of H v s) j 0 (suc (tz j))) ∙ omega arith

  -- What stands before the links, here d, and the links behind it are the component.
  pub component_written : (out a b d : Bytes) (to j : ℕ) → 1 ≤ j → place v j ≤ length s → to ≤ length out → d ≡ body_of v s j → a ≡ paste out to d (length d)
      → b ≡ paste a (to + length d) (links (t_of H v s) j 0 (suc (tz j))) (32 * suc (tz j)) → b ≡ paste out to (component_in H v s j) (size v j)
  component_written out a b d to j h fits room ed ea eb =
      let L = links (t_of H v s) j 0 (suc (tz j)) in
      let whole : length d + 32 * suc (tz j) ≡ size v j = omega (arith, ap length ed ∙ body_length v s j h fits) in
      eb
      ∙ ap (λ (x : Bytes). paste x (to + length d) L (32 * suc (tz j))) ea
      ∙ paste_more out d L to (length d) (32 * suc (tz j)) refl (linked_length H hash_length v s j fits (suc (tz j))) room
      ∙ ap₂ {A = Bytes} {B = ℕ} {C = Bytes} (λ x n. paste out to (x ++ L) n) ed whole

  module _ (n : ℕ) (fits : place v n ≤ length s) where
    within : (j : ℕ) → j ≤ n → place v j ≤ length s
    within j h = le_trans (place_mono v j n h) fits

    -- ---- an advancement proof

    advancement_sized : (i : ℕ) → i ≤ n → length (advancement_in H v s i n) ≡ total v (path_after i n)
    advancement_sized i h = hops_ind (λ i ls. length (rest i ls) ≡ total v (after i ls)) n refl (λ i l ls b r. next i l ls b.hop.reaches r) i h
      where
        rest : ℕ → List ℕ → Bytes
        rest i ls = components (body_of v s) (t_of H v s) (after i ls)

        next : (i l : ℕ) (ls : List ℕ) → i + 2 ^ l ≤ n → length (rest (i + 2 ^ l) ls) ≡ total v (after (i + 2 ^ l) ls) → length (rest i (l ∷ ls)) ≡ total v (after i (l ∷ ls))
        next i l ls r e =
            let pos = pow_pos l in
            length-append (component_in H v s (i + 2 ^ l)) (rest (i + 2 ^ l) ls)
            ∙ ap₂ (λ (x y : ℕ). x + y) (component_sized (i + 2 ^ l) (omega arith) (within (i + 2 ^ l) r)) e

    -- Below n it is the component where the hop ends, here written into o, then the proof from there.
    pub advancement_step : (out o : Bytes) (to j k m : ℕ) → j < n → k ≡ j + 2 ^ level j n → to ≤ length out → o ≡ paste out to (component_in H v s k) (size v k) → m ≡ size v k
        → paste out to (advancement_in H v s j n) (total v (path_after j n)) ≡ paste o (to + m) (advancement_in H v s k n) (total v (path_after k n))
    unfolding path
    advancement_step out o to j k m h e room eo em =
        let hop = hopped v j n k h e in
        ap (λ (p : List ℕ). paste out to (components (body_of v s) (t_of H v s) p) (total v p)) (after_step j n h ∙ ap (λ (x : ℕ). path x n) (sym e))
        ∙ sym (paste_more out (component_in H v s k) (advancement_in H v s k n) to (size v k) (total v (path_after k n))
        (component_sized k (omega (arith, hop.up)) (within k hop.inside)) (advancement_sized k hop.inside) room)
        ∙ ap₂ {A = Bytes} {B = ℕ} {C = Bytes} (λ x i. paste x (to + i) (advancement_in H v s k n) (total v (path_after k n))) (sym eo) (sym em)

    -- At n nothing is left to write.
    pub advancement_end : (out : Bytes) (to j : ℕ) → j ≡ n → paste out to (advancement_in H v s j n) (total v (path_after j n)) ≡ out
    advancement_end out to j e =
        ap (λ (p : List ℕ). paste out to (components (body_of v s) (t_of H v s) p) (total v p)) (ap (λ (x : ℕ). path_after x n) e ∙ after_end n)
        ∙ sym (paste-zero out to [])

    pub advancement_written : (i : ℕ) (out o : Bytes) → i ≤ n → o ≡ paste out 0 (advancement_in H v s i n) (total v (path_after i n)) → o ≡ over (advancement_in H v s i n) out
    advancement_written i out o h e = e ∙ paste_over (advancement_in H v s i n) out (total v (path_after i n)) (advancement_sized i h)

    -- ---- a membership proof: the component of i, then the advancement proof

    pub membership_written : (i : ℕ) (out a b : Bytes) (to : ℕ) → 1 ≤ i → i ≤ n → a ≡ paste out 0 (component_in H v s i) (size v i) → to ≡ size v i
        → b ≡ paste a to (advancement_in H v s i n) (total v (path_after i n)) → b ≡ over (membership_in H v s i n) out
    unfolding path
    membership_written i out a b to g h ea et eb =
        let first = component_sized i g (within i h) in
        let rest = advancement_sized i h in
        eb
        ∙ ap₂ {A = Bytes} {B = ℕ} {C = Bytes} (λ x k. paste x k (advancement_in H v s i n) (total v (path_after i n))) ea (et ∙ sym (zero-add (size v i)))
        ∙ paste_more out (component_in H v s i) (advancement_in H v s i n) 0 (size v i) (total v (path_after i n)) first rest zero-le
        ∙ paste_over (membership_in H v s i n) out (size v i + total v (path_after i n))
        (length-append (component_in H v s i) (advancement_in H v s i n) ∙ ap₂ (λ (x y : ℕ). x + y) first rest)
