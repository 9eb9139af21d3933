-- `lists::number_at` meets its contract: what is read of eight bytes is the number that they are.
use Rattle.std.proofs.Common.{◌≡◌, ◌∙◌, ap, arith, rules, take, drop}
use Rattle.lists.specs.Bytes.{number}
use Rattle.lists.specs.Numbers.{eight}
use Rattle.lists.specs.Laws.{length_part}
use Rattle.std.specs.Int.{w64, from_be_bytes}
use Rattle.lists.proofs.number_at.Goals as goal

pub returns : goal.returns
returns c =
    let a = c.args in
    let part = take 8 (drop a.at a.s.now) in
    let w : c.unwrap-digits.result ≡ part = search rules in
    let e : from_be_bytes w64 c.unwrap-digits.result ≡ number part = ap (from_be_bytes w64) w ∙ eight part (length_part 8 a.at a.s.now c.requires) in
    omega (arith, e)
