-- `basis::basis_rows` meets its contract: each row is that of its level.
use Rattle.std.proofs.Common.{rules, of_calls, ◌≡◌, ◌<◌, ◌+◌, ℕ, slice_index_or, arith, refl}
use Rattle.hash.specs.Hash.{hash_of}
use Rattle.hash.specs.declared.Digest.{Digest}
use Rattle.rules.specs.Store.{t_of}
use Rattle.rules.specs.Numbers.{v1}
use Rattle.rules.specs.Held.{row_of}
use Rattle.held.specs.Holding.{bytes_of}
use Rattle.held.proofs.Turns.{no_digest}
use Rattle.held.proofs.Making.{all_made}
use Rattle.basis.proofs.Filling.{rows_basis}
use Rattle.basis.proofs.basis_rows.Goals as goal

pub returns : goal.returns
returns c =
    let T = t_of hash_of v1 c.args.s.now in
    let n = c.args.at.0 in
    let P = λ (i : ℕ) (d : Digest). bytes_of d ≡ row_of T n i in
    let each : (i : ℕ) → i < 32 → P i (slice_index_or c.from_fn.result i no_digest) =
    λ i h. all_made _ (λ f. (f.0.now ≡ c.args.s.now) × (f.1.now ≡ c.args.at)) P (λ f i d after kept call. let met = call.met in search (of_calls, rules)) 32 _ _ 0 (refl, refl)
    c.from_fn.ensures.items.each i (omega arith) (omega arith) no_digest in
    rows_basis T n 32 0 c.from_fn.result c.from_fn.ensures.items.long (λ i h. let same : 0 + i ≡ i = omega arith in rw same (each i h))
