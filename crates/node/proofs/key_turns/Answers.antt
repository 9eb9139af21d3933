-- `node::key_turns` meets its contract: the handle is one row.
use Rattle.std.proofs.Common.{rules, ◌≡◌, ap₂, ◌∙◌, ℕ, Bool, arith, length}
use lib.Seq.{take_all}
use Rattle.lists.specs.Bytes.{Bytes}
use Rattle.dictionary.specs.Handles.{turn}
use Rattle.node.proofs.key_turns.Goals as goal

pub returns : goal.returns
returns c =
    let handle = c.args.handle.now in
    let long : length handle ≡ 32 = search rules in
    let row = take_all 32 handle (omega (arith, long)) in
    let bit : _ ≡ c.args.e = omega arith in
    c.turns.ensures ∙ ap₂ {A = ℕ} {B = Bytes} {C = Bool} turn bit row
