-- The rows of a state, made one for each level.
use mathlib.Core.Path.{◌≡◌, refl, ap₂, ◌∙◌}
use mathlib.Core.List.{List, [], ◌∷◌}
use Prim.Native.Nat.{ℕ, zero, suc, ◌+◌, ◌<◌}
use native.Mathlib.Nat.{add-zero}
use native.Mathlib.Omega.{arith}
use lib.ListN.{length, get_or}
use Rattle.lists.specs.Bytes.{Bytes}
use Rattle.rules.specs.Held.{row_of, basis}
use Rattle.hash.specs.declared.Digest.{Digest}
use Rattle.held.specs.Holding.{bytes_of, rows_of}
use Rattle.held.proofs.Turns.{no_digest}

-- Rows of which each is that of its level are the basis.
pub rows_basis : (T : ℕ → Bytes) (n k l : ℕ) (rows : List Digest) → length rows ≡ k → ((i : ℕ) → i < k → bytes_of (get_or rows i no_digest) ≡ row_of T n (l + i))
    → rows_of rows ≡ basis T n l k
unfolding basis
rows_basis T n zero l [] e each = refl
rows_basis T n zero l (d ∷ rows) e each = absurd (omega arith)
rows_basis T n (suc k) l [] e each = absurd (omega arith)
rows_basis T n (suc k) l (d ∷ rows) e each =
    ap₂ (λ (x : Bytes) (xs : List Bytes). x ∷ xs) (each 0 (omega arith) ∙ rw add-zero)
    (rows_basis T n k (suc l) rows (omega arith) (λ i h. let same : l + suc i ≡ suc l + i = omega arith in each (suc i) (omega arith) ∙ rw same))
