-- The whole outcome of comparing two stores. Both are lent to be read: nothing is written.
use Rattle.std.specs.Prelude.{cond, ◌||◌, ℕ, eqb}
use Rattle.lists.specs.Bytes.{Bytes}
use Rattle.rules.specs.Numbers.{Version}
use Rattle.rules.specs.Refusals.{store_damaged}
use Rattle.rules.specs.Store.{damaged, log_of}
use Rattle.copies.specs.Refusals.{other_log}
use Rattle.copies.specs.Comparing.{Finding, finding}

pub data Outcome : Type 0 where
  found : Finding → Outcome
  refused : ℕ → Outcome  -- the number; there are no others beside it

-- "A different log number is refused with a new number, store damage with 1." Checks run in number order, so 1 is for either store before 26.
unfoldable pub compare_call : Version → Bytes → Bytes → Outcome
compare_call v s t =
    cond (damaged v s || damaged v t) (refused store_damaged)
    (cond (eqb (log_of s) (log_of t)) (found (finding v s t)) (refused other_log))
