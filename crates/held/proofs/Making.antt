-- Rows made one for each level, as `array::from_fn` makes them.
use Rattle.std.proofs.Common.{◌≡◌, ℕ, zero, suc, ◌+◌, ◌≤◌, ◌<◌, List, get_or, arith}
use native.Mathlib.Decide.{dec_lt}
use denote.Param.Members.{Mut, Called}
use Rattle.std.specs.Array.{IsFromFnResultFrom}

-- Calls at the numbers from i on: what each keeps of the caller's state, and says of what it makes, holds of all that they make.
module _ {F B : Type 0} (g : Mut F (ℕ × Unit {0}) B) (Keeps : F → Type 0) (P : ℕ → B → Type 0)
    (turn : (f : F) (i : ℕ) (x : B) (after : F) → Keeps f → Called g f (i, tt) x after → Keeps after × P i x) where
  pub all_made : (n : ℕ) (f : F) (xs : List B) (i : ℕ) → Keeps f → IsFromFnResultFrom g f xs i n → (k : ℕ) → i ≤ k → k < i + n → (e : B) → P k (get_or xs k e)
  all_made zero f xs i kept made k h l e = absurd (omega arith)
  all_made (suc n) f xs i kept (after, x, at, call, rest) k h l e =
      let made = turn f i x after kept call in
      go (dec_lt i k) made.1 (λ b. all_made n after xs (i + 1) made.0 rest k (omega arith) (omega arith) e)
    where
      go : Dec (i < k) → P i x → (i < k → P k (get_or xs k e)) → P k (get_or xs k e)
      go (yes b) here later = later b
      go (no b) here later = let same : k ≡ i = omega arith in rw (same, at.1 e) here
