-- `standin::joined` meets its contract: stirring goes on where the first string ended.
use mathlib.Core.Path.{◌≡◌, sym, ap, ◌∙◌}
use mathlib.Core.List.{◌++◌}
use Prim.Native.Nat.{ℕ, ◌+◌, ◌%◌, ◌≤◌}
use native.Mathlib.Nat.{zero-add}
use native.Mathlib.Omega.{arith}
use lib.Dec.{lit<}
use lib.ListN.{length}
use Rattle.lists.specs.Bytes.{Bytes, zeros}
use Rattle.standin.specs.Stirred.{stirred, stirred_append, hash_stirred}
use Rattle.standin.specs.Joined.{joined_of, joined_short, joined_long}
use Rattle.standin.proofs.joined.Goals as goal

both : (a b one two : Bytes) → length a + length b ≤ 65536 → one ≡ stirred 0 zeros a → two ≡ stirred (length a % 32) one b → two ≡ joined_of a b
both a b one two h e f =
    f
    ∙ ap (λ (x : Bytes). stirred (length a % 32) x b) e
    ∙ ap (λ (k : ℕ). stirred (k % 32) (stirred 0 zeros a) b) (sym (zero-add (length a)))
    ∙ sym (stirred_append a b 0 zeros (lit< tt))
    ∙ sym (hash_stirred (a ++ b))
    ∙ sym (joined_short a b h)

pub returns-then-first-gt65536 : goal.returns-then-first-gt65536
returns-then-first-gt65536 c = let a = c.args in sym (joined_long a.first.now a.second.now (omega arith))

pub returns-then-first-second : goal.returns-then-first-second
returns-then-first-second c = let a = c.args in sym (joined_long a.first.now a.second.now (omega arith))

pub returns : goal.returns
returns c =
    let a = c.args in
    both a.first.now a.second.now _ _ (omega arith) c.stir-one.ensures c.stir-both.ensures
