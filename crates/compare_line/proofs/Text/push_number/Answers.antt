-- `compare_line::Text::push_number` meets its contract: the fewest digits that hold the number are those of the line, and at most 20.
use Rattle.std.proofs.Common.{◌≤◌, ◌++◌, ◌∙◌, ap, arith}
use Rattle.lists.specs.Bytes.{Bytes}
use Rattle.compare_line.proofs.Digits.{few, fewest}
use Rattle.compare_line.proofs.Text.push_number.Goals as goal

pub returns : goal.returns
returns c =
    let n = c.args.n in
    let k = c.decimal-k.result in
    let short : k ≤ 20 = few n k (omega arith) c.decimal-k.ensures.len in
    c.push.ensures ∙ ap (λ (digits : Bytes). c.args.self.now ++ digits) (c.decimal-k.ensures.digits ∙ fewest 20 k n c.decimal-k.ensures.len short)
