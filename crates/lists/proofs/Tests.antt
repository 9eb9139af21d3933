-- std's test of two slices is the one of the rules.
use Rattle.std.proofs.Common.{◌≡◌, ◌&&◌, Bool, [], ◌∷◌, refl, ap, eqb}
use lib.Pointwise.{pointwise}
use Rattle.lists.specs.Bytes.{Bytes, same}

pub tested : (a b : Bytes) → pointwise eqb a b ≡ same a b
tested [] [] = refl
tested [] (y ∷ ys) = refl
tested (x ∷ xs) [] = refl
tested (x ∷ xs) (y ∷ ys) = ap (λ (t : Bool). eqb x y && t) (tested xs ys)
