-- `wire::put_rows` meets its contract: after l turns the first l rows are written.
use Rattle.std.proofs.Common.{◌≡◌, ℕ, List, [], ◌+◌, ◌-◌, ◌*◌, ◌<◌, length, get_or, take, refl, sym, ap, ap₂, ◌∙◌, arith, rules}
use Rattle.std.proofs.Math.Seq.{paste, paste-zero, length-paste, take_all}
use Rattle.std.proofs.lemmas.Slice.{put_mid-paste}
use Rattle.lists.specs.Bytes.{Bytes}
use Rattle.rules.specs.Numbers.{v1}
use Rattle.held.specs.Holding.{bytes_of, rows_of}
use Rattle.held.proofs.Turns.{no_digest, rows_long}
use Rattle.wire.specs.Wire.{rows_place, flat}
use Rattle.wire.proofs.Wiring.{long_turn, write_turn}
use Rattle.wire.proofs.put_rows.Goals as goal

pub loop-l-init : goal.loop-l-init
unfolding flat
loop-l-init c = (refl, refl, paste-zero c.args.out.now rows_place [])

pub loop-l-preserved : goal.loop-l-preserved
loop-l-preserved c =
    let l = c.loop-l in
    let rows = c.args.rows.now in
    let row = bytes_of (get_or rows l.l no_digest) in
    let whole : length row ≡ 32 = search rules in
    let here : l.l < length (rows_of rows) = omega (arith, rows_long rows (search rules)) in
    let at = rows_place + 32 * l.l in
    let put = put_mid-paste at (at + 32 - at) l.out c.copy_from_slice.new.self row 32 c.copy_from_slice.ensures.after (omega arith) (sym whole) in (
      ap length put ∙ length-paste l.out at row 32 (omega arith) (omega arith) ∙ l.invariant.0,
      long_turn rows l.l here row refl whole l.invariant.1,
      put ∙ write_turn rows l.l here row refl whole c.args.out.now l.out rows_place l.invariant.1 (omega arith) l.invariant.2,
    )

pub returns : goal.returns
returns c =
    let l = c.loop-l in
    let rs = rows_of c.args.rows.now in
    let n : l.l ≡ v1.levels = omega arith in
    let all : take l.l rs ≡ rs = take_all l.l rs (omega (arith, rows_long c.args.rows.now (search rules))) in (
      l.invariant.2 ∙ ap₂ {A = List Bytes} {B = ℕ} {C = Bytes} (λ x k. paste c.args.out.now rows_place (flat x) (32 * k)) all n,
      ap (λ (x : List Bytes). length (flat x)) (sym all) ∙ l.invariant.1 ∙ ap (λ (k : ℕ). 32 * k) n,
    )
