-- `wire::read_rows` meets its contract: each row is the one that stands at its place in the bytes.
use Rattle.std.proofs.Common.{rules, of_calls, ◌≡◌, ◌<◌, ◌+◌, ◌*◌, ℕ, slice_index_or, take, drop, arith, refl, sym, ap, ◌∙◌}
use Rattle.std.proofs.Math.Seq.{drop-drop}
use Rattle.hash.specs.declared.Digest.{Digest}
use Rattle.held.specs.Holding.{bytes_of}
use Rattle.held.proofs.Turns.{no_digest}
use Rattle.held.proofs.Making.{all_made}
use Rattle.wire.specs.Wire.{rows_place}
use Rattle.wire.proofs.Wiring.{all_read}
use Rattle.wire.proofs.read_rows.Goals as goal

pub returns : goal.returns
returns c =
    let b = c.args.bytes.now in
    let P = λ (i : ℕ) (d : Digest). bytes_of d ≡ take 32 (drop (rows_place + 32 * i) b) in
    let each : (i : ℕ) → i < 32 → P i (slice_index_or c.from_fn.result i no_digest) =
    λ i h. all_made _ (λ f. f.0.now ≡ b) P (λ f i d after kept call. let met = call.met in search (of_calls, rules)) 32 _ _ 0 refl
    c.from_fn.ensures.items.each i (omega arith) (omega arith) no_digest in
    all_read 32 (drop rows_place b) c.from_fn.result c.from_fn.ensures.items.long (λ i h. each i h ∙ ap (take 32) (sym (drop-drop (32 * i) rows_place b)))
