-- `sha256::joined` meets its contract: the whole blocks of the first string are chained, and what is left of it stands before the second.
use mathlib.Core.Path.{sym, ap, ◌∙◌}
use Rattle.std.specs.Prelude.{Ok}
use mathlib.Core.List.{◌++◌}
use native.Mathlib.Omega.{arith}
use lib.ListN.{length-append}
use Rattle.sha256.specs.Ending.{ended_all}
use Rattle.sha256.specs.Outcomes.{hashed_long, hashed_fits}
use Rattle.sha256.proofs.Feeding.{ended_rest}
use Rattle.sha256.proofs.joined.Goals as goal

pub returns-then-first-gt-LIMIT : goal.returns-then-first-gt-LIMIT
returns-then-first-gt-LIMIT c =
    let a = c.args in
    sym (hashed_long (a.first.now ++ a.second.now) (omega (arith, length-append a.first.now a.second.now)))

pub returns-then-first-second : goal.returns-then-first-second
returns-then-first-second c =
    let a = c.args in
    sym (hashed_long (a.first.now ++ a.second.now) (omega (arith, length-append a.first.now a.second.now)))

pub returns : goal.returns
returns c =
    let a = c.args in
    let x = a.first.now in
    let y = a.second.now in
    let l = length-append x y in
    ap Ok
    (ended_all _ _ (x ++ y) _ _ c.first.ensures (sym l) (ended_rest _ _ _ x y _ c.chain-words.ensures c.ended_by-last.ensures) c.bytes_of.ensures)
    ∙ sym (hashed_fits (x ++ y) (omega arith))
