-- `messages::row_is` meets its contract: 32 bytes from 32 times the row's number.
use Rattle.std.proofs.Common.{◌≡◌, ◌+◌, ◌-◌, ◌*◌, ◌∙◌, ℕ, sym, ap₂, take, drop, zero-add, arith}
use Rattle.lists.specs.Bytes.{same}
use Rattle.messages.proofs.component.row_is.Goals as goal

pub returns : goal.returns
returns c =
    let a = c.args in
    let e : 32 * a.r + 32 - 32 * a.r ≡ 32 = omega arith in
    c.eq.ensures ∙ ap₂ (λ (k o : ℕ). same (take k (drop o a.component.now)) a.d.bytes) e (sym (zero-add (32 * a.r)))
