-- The walk's loop: what is left decides. `Stands` is its invariant; a good hop keeps it, a bad hop and the end settle the verdict.
use mathlib.Core.Path.{◌≡◌, refl, sym, ap, ◌∙◌}
use mathlib.Core.Bool.{Bool, true, false}
use mathlib.Core.List.{List}
use Prim.Native.Nat.{ℕ, suc, ◌+◌, ◌≤◌, ◌<◌}
use native.Mathlib.Numerals.{add-one}
use native.Mathlib.Omega.{arith}
use lib.Pow.{pow_pos}
use lib.ListN.{length}
use Rattle.std.specs.Prelude.{◌≢◌}
use Rattle.lists.specs.Bytes.{Bytes, same}
use Rattle.hash.specs.Hash.{hash_of}
use Rattle.rules.specs.Numbers.{v1}
use Rattle.rules.specs.Paths.{level, hops, path}
use Rattle.rules.specs.Messages.{size, total}
use Rattle.rules.specs.Refusals.{link_differs, digest_differs}
use Rattle.rules.specs.Checking.{place, Verdict as Judged, accepted, must_at, must, walk}
use Rattle.rules.proofs.Hops.{level_hop, hops_step}
use Rattle.rules.proofs.Bounds.{total_step, total_first}
use Rattle.rules.proofs.Walking.{walk_end}
use Rattle.membership.specs.declared.Walk.{Walk}
use Rattle.membership.specs.declared.Hop.{Hop}
use Rattle.membership.specs.declared.Hop.TheVariants.{Good}
use Rattle.membership.specs.declared.Hopped.{Hopped}
use Rattle.membership.specs.Hopping.{level_here, to_here, link_holds, onward, hop_of, hop_good, hop_bad, good_test, verdict_by}
use Rattle.membership.specs.Verdicts.{verdict_of}

-- the verdict of the walk from where it stands, with k hops good
abbrev pub verdict_from : ℕ → Bytes → Bytes → Walk → ℕ → Judged ℕ
verdict_from n p D w k = walk hash_of v1 w.at.0 w.digest.bytes (hops w.at.0 n) p w.next D k

pub record Stands (n : ℕ) (p D : Bytes) (w₀ w : Walk) (k : ℕ) : Type 0 where
  pub high : w.at.0 ≤ n
  pub few : k ≤ w.at.0
  pub left : w.next + total v1 (path w.at.0 n) ≡ length p + size v1 w.at.0
  pub decides : verdict_from n p D w₀ 0 ≡ verdict_from n p D w k

module _ (n : ℕ) (p D : Bytes) (w₀ w : Walk) (k : ℕ) (s : Stands n p D w₀ w k) where
  module _ (h : w.at.0 < n) where
    -- the next component is there
    pub room : w.next + size v1 (to_here p n w) ≤ length p
    room = omega (arith, s.left, total_step v1 w.at.0 n h, total_first v1 (to_here p n w) n)

    step : (b : Bool) → link_holds p n w ≡ b → verdict_from n p D w₀ 0 ≡ must_at (place (to_here p n w) (level_here p n w)) b link_differs k (verdict_from n p D (onward p n w) (suc k))
    unfolding walk
    step b e =
        s.decides
        ∙ ap (λ (ls : List ℕ). walk hash_of v1 w.at.0 w.digest.bytes ls p w.next D k) (hops_step w.at.0 n h)
        ∙ ap (λ (x : Bool). must_at (place (to_here p n w) (level_here p n w)) x link_differs k (verdict_from n p D (onward p n w) (suc k))) e

    module _ (r : Hopped) (e : r ≡ hop_of p n w) where
      -- a bad hop decides
      pub refuses : r.verdict ≢ Good → verdict_of (verdict_by r.verdict k) ≡ verdict_from n p D w₀ 0
      unfolding verdict_of
      refuses t = go (link_holds p n w) refl
        where
          told : {x : Hopped} → hop_of p n w ≡ x → r.verdict ≡ x.verdict
          told f = ap (λ (y : Hopped). y.verdict) (e ∙ f)

          go : (b : Bool) → link_holds p n w ≡ b → verdict_of (verdict_by r.verdict k) ≡ verdict_from n p D w₀ 0
          go true f = absurd (t (told (hop_good p n w f)))
          go false f = ap (λ (v : Hop). verdict_of (verdict_by v k)) (told (hop_bad p n w f)) ∙ sym (step false f)

      pub goes_on : r.verdict ≡ Good → Stands n p D w₀ r.state (k + 1) × (w.at.0 < r.state.at.0)
      goes_on v =
          let t = good_test p n w (sym (ap (λ (y : Hopped). y.verdict) e) ∙ v) in
          let g : r.state ≡ onward p n w = ap (λ (y : Hopped). y.state) (e ∙ hop_good p n w t) in
          let pos = pow_pos (level w.at.0 n) in
          let reach = (level_hop w.at.0 n h).reaches in
          let more = total_step v1 w.at.0 n h in
          rw (g, add-one k) (
            record { high = omega arith; few = omega (arith, s.few); left = omega (arith, s.left); decides = step true t },
            omega arith,
          )

  -- at n the last digest decides
  pub settles : n ≤ w.at.0 → (b : Bool) → same w.digest.bytes D ≡ b → must b digest_differs k (accepted k) ≡ verdict_from n p D w₀ 0
  settles h b e =
      sym (s.decides
      ∙ walk_end hash_of v1 w.at.0 n w.digest.bytes p w.next D k (omega (arith, s.high))
      ∙ ap (λ (x : Bool). must x digest_differs k (accepted k)) e)
