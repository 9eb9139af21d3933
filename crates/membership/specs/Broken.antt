-- WHERE A MEMBERSHIP PROOF BROKE, from the contract of `check_membership` alone.
use Rattle.std.specs.Prelude.{◌≡◌, ℕ, Err}
use Rattle.std.proofs.Common.{sym, ap, ◌∙◌}
use Rattle.lists.specs.Bytes.{Bytes}
use Rattle.hash.specs.Hash.{hash_of}
use Rattle.rules.specs.Numbers.{v1}
use Rattle.rules.specs.Paths.{hops}
use Rattle.rules.specs.Checking.{place, member}
use Rattle.rules.proofs.Broken.{LinkBreaks, begun, member_broke}
use Rattle.membership.specs.declared.MembershipError.TheVariants.{LinkDiffers}
use Rattle.membership.specs.Verdicts.{Verdict, verdict_of}

-- Where the check answers LinkDiffers with k hops, an element and a level, the first k hops of the path are good, and the next one, which is of that level
-- and reaches that element, finds another link there than the digest computed before it.
pub link_broke : (e : Bytes) (i n : ℕ) (D p : Bytes) (r : Verdict) (k element level : ℕ) → verdict_of r ≡ member hash_of v1 e i n D p → r ≡ Err (LinkDiffers k element level)
    → LinkBreaks hash_of v1 p (place element level) (begun hash_of v1 p i) (hops i n) k
unfolding verdict_of
link_broke e i n D p r k element level met a = member_broke hash_of v1 p e i n D k (place element level) (sym met ∙ ap verdict_of a)
