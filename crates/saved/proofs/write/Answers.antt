-- `saved::write` meets its contract: each return fixes the tests of the definition up to it, and head and rows are the file.
use mathlib.Core.Path.{◌≡◌, refl, sym, ap₂, ◌∙◌}
use mathlib.Core.Bool.{true}
use Prim.Native.Nat.{ℕ}
use native.Mathlib.Omega.{arith}
use lib.ListN.{length}
use borrow.Author.Tests.{lt-ltb, le-ltb}
use Rattle.lists.specs.Bytes.{Bytes}
use Rattle.hash.specs.Hash.{hash_of}
use Rattle.rules.specs.Numbers.{v1}
use Rattle.rules.specs.Held.{is_in_order}
use Rattle.rules.specs.Calls.{Written, written, gives}
use Rattle.held.specs.Holding.{holds}
use Rattle.file_form.specs.Form.{file_size}
use Rattle.file_form.proofs.Answers.{write_is}
use Rattle.file_form.proofs.Back.{order_few}
use Rattle.saved.proofs.Turns.{file_written}
use Rattle.saved.proofs.write.Goals as goal
use Rattle.saved.proofs.write.Goals.{Else-not-is_in_order}

ordered : (c : Else-not-is_in_order) → is_in_order hash_of v1 (holds c.args.h) ≡ true
ordered c = sym c.is_in_order.ensures ∙ c.if-not-is_in_order.false

pub returns-then-not-is_in_order : goal.returns-then-not-is_in_order
returns-then-not-is_in_order c =
    let a = c.args in
    sym (write_is hash_of v1 (holds a.h) a.out.now (sym c.is_in_order.ensures ∙ c.if-not-is_in_order.true) refl)

pub returns-then-out-size : goal.returns-then-out-size
returns-then-out-size c =
    let a = c.args in
    sym (write_is hash_of v1 (holds a.h) a.out.now (ordered (goal.at.returns-then-out-size c).Else-not-is_in_order) (lt-ltb (length a.out.now) (file_size a.h.count.0) (omega (arith, c.file_len-size.ensures))))

pub put_rows-requires : goal.put_rows-requires
put_rows-requires c =
    (order_few hash_of v1 _ (ordered (goal.at.put_rows-requires c).Else-not-is_in_order), omega (arith, c.file_len-size.ensures))

pub returns : goal.returns
returns c =
    let rows = c.put_rows in
    let front = c.put_head in
    let size = c.file_len-size in
    let a = c.args in
    ap₂ {A = ℕ} {B = Bytes} {C = Written} (λ n o. written (gives n) o) size.ensures
    (file_written (holds a.h) a.out.now _ _ front.ensures.1 rows.ensures.1 front.ensures.0 rows.ensures.0)
    ∙ sym (write_is hash_of v1 (holds a.h) a.out.now (ordered (goal.at.returns c).Else-not-is_in_order) (le-ltb (length a.out.now) (file_size a.h.count.0) (omega (arith, c.if-out-size.false, size.ensures))))
