-- `held::compare_rows` meets its contract: what the rows from a row up say is what all of them say, as long as each was good and in use.
use Rattle.std.proofs.Common.{◌≡◌, suc, ◌+◌, ◌*◌, ◌/◌, ◌^◌, length, drop}
use Rattle.held.specs.Holding.{rows_of}
use Rattle.held.specs.Rows.{rows_say}
use Rattle.held.proofs.compare_rows.Given as goal

abbrev pub invariant-loop-c : goal.invariant-loop-c
invariant-loop-c l =
    let c = l.level + length l.yielded in
    let q = l.h.count.0 / 2 ^ l.level in
    (suc q * 2 ^ l.level ≡ suc l.q * 2 ^ c)
    × (rows_say l.level q (drop l.level (rows_of l.h.rows)) l.component ≡ rows_say c l.q (drop c (rows_of l.h.rows)) l.component)
