-- One hop of a walk, as the code takes it: on to the next element, or the link that differs.
use Rattle.std.specs.Prelude.{◌≡◌, refl, Bool, true, false, cond, ℕ, suc, ◌+◌, ◌^◌, Ok, Err}
use Rattle.std.proofs.Common.{arith}
use Rattle.lists.specs.Bytes.{Bytes, same}
use Rattle.hash.specs.Hash.{hash_of}
use Rattle.rules.specs.Numbers.{v1}
use Rattle.rules.specs.Paths.{level}
use Rattle.rules.specs.Messages.{size, row, part}
use Rattle.rules.specs.Checking.{digest_at}
use Rattle.membership.specs.declared.Walk.{Walk}
use Rattle.membership.specs.declared.Hop.{Hop}
use Rattle.membership.specs.declared.Hop.TheVariants.{Good, Link}
use Rattle.membership.specs.declared.Hopped.{Hopped}
use Rattle.membership.specs.declared.MembershipError.TheVariants.{LinkDiffers}
use Rattle.membership.specs.Verdicts.{Verdict}

module _ (p : Bytes) (n : ℕ) (w : Walk) where
  -- the level hopped, and where the hop ends
  abbrev pub level_here : ℕ
  level_here = level w.at.0 n

  abbrev pub to_here : ℕ
  to_here = w.at.0 + 2 ^ level_here

  -- whether "the component's link of the level hopped" is "the digest computed before it"
  abbrev pub link_holds : Bool
  link_holds = same (row v1 (part v1 p w.next to_here) (suc level_here)) w.digest.bytes

  -- where the walk stands after a good hop
  abbrev pub onward : Walk
  onward = record { at = record { 0 = to_here }; digest = record { bytes = digest_at hash_of v1 p w.next to_here }; next = w.next + size v1 to_here }

  unfoldable pub hop_of : Hopped
  hop_of = cond link_holds (record { verdict = Good; state = onward }) (record { verdict = Link to_here level_here; state = w })

  -- ---- the two cases, by the test

  pub hop_good : link_holds ≡ true → hop_of ≡ record { verdict = Good; state = onward }
  unfolding hop_of
  hop_good e = rw e

  pub hop_bad : link_holds ≡ false → hop_of ≡ record { verdict = Link to_here level_here; state = w }
  unfolding hop_of
  hop_bad e = rw e

  -- and back: what the verdict says of the test
  pub good_test : hop_of.verdict ≡ Good → link_holds ≡ true
  good_test h = go link_holds refl
    where
      go : (b : Bool) → link_holds ≡ b → b ≡ true
      go true e = refl
      go false e = let f = hop_bad e in absurd (let z : ◌≡◌ {A = ℕ} 0 1 = cc in omega arith)

-- what a hop's verdict says of the check, with k hops good before it
abbrev pub verdict_by : Hop → ℕ → Verdict
verdict_by Good k = Ok k
verdict_by (Link j l) k = Err (LinkDiffers k j l)
