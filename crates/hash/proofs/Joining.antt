-- The digest that SHA-256's two parts give: refused where both together are over the limit.
use mathlib.Core.Path.{◌≡◌, sym, ap, ◌∙◌}
use mathlib.Core.List.{List, ◌++◌}
use Prim.Native.Nat.{ℕ, ◌+◌, ◌≤◌}
use native.Mathlib.Decide.{dec_le}
use native.Mathlib.Omega.{arith}
use lib.ListN.{length, length-append}
use Rattle.std.specs.Prelude.{Result}
use Rattle.sha256.specs.Stream.{limit, hashed, digest_of}
use Rattle.sha256.specs.Outcomes.{hashed_long, hashed_fits}
use Rattle.sha256.specs.declared.HashError.{HashError}
use Rattle.hash.specs.Hash.{hash_of}
use Rattle.hash.specs.Joined.{joined_of, joined_short, joined_long}

module _ (a b : List ℕ) (r : Result (List ℕ) HashError) (e : r ≡ hashed (a ++ b)) where
  given : Dec (length a + length b ≤ limit) → digest_of r ≡ joined_of a b
  unfolding hash_of
  given (yes h) =
      let l = length-append a b in
      ap digest_of (e ∙ hashed_fits (a ++ b) (omega arith)) ∙ sym (joined_short a b h)
  given (no h) =
      let l = length-append a b in
      ap digest_of (e ∙ hashed_long (a ++ b) (omega arith)) ∙ sym (joined_long a b (omega arith))

  pub digest_is : digest_of r ≡ joined_of a b
  digest_is = given (dec_le (length a + length b) limit)
