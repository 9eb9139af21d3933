-- The rows of a file, read with k levels more: those that were, and k that are free.
use Rattle.std.specs.Prelude.{◌≡◌, List, ◌∷◌, ◌++◌, take, drop, replicate}
use Rattle.std.proofs.Math.Path.{refl}
use Rattle.std.proofs.Common.{ap, zero-add, arith}
use Rattle.std.proofs.Math.Bool.{cond}
use Prim.Native.Nat.{ℕ, zero, suc, ◌+◌, ◌*◌, ◌/◌, ◌%◌, ◌^◌, ◌<◌}
use Rattle.lists.specs.Bytes.{Bytes, zeros}
use Rattle.rules.specs.Held.{odd}
use Rattle.file_form.specs.Form.{rows_in}
use Rattle.file_form.proofs.Rows.{half_left}

-- no row is in use above the bits of the count
none_in : (k : ℕ) (b : Bytes) → rows_in k 0 b ≡ replicate k zeros
unfolding rows_in
none_in zero b = refl
none_in (suc k) b = ap (λ (rs : List Bytes). zeros ∷ rs) (none_in k b)

pub rows_wider : (m k q : ℕ) (b : Bytes) → q < 2 ^ m → rows_in (m + k) q b ≡ rows_in m q b ++ replicate k zeros
unfolding rows_in
rows_wider zero k q b h = let e : q ≡ 0 = omega arith in rw (e, zero-add) (none_in k b)
rows_wider (suc m) k q b h =
    let e : suc m + k ≡ suc (m + k) = omega arith in
    rw (e, rows_in) (ap (λ (rs : List Bytes). cond (odd q) (take 32 b) zeros ∷ rs) (rows_wider m k (q / 2) (drop (32 * (q % 2)) b) (half_left q m h)))
