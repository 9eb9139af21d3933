-- `node::turns` meets its contract: a bit by its byte.
use Rattle.std.proofs.Common.{◌≡◌, sym, ap, ◌∙◌}
use Prim.Native.Nat.{ℕ, ◌+◌, ◌-◌, ◌/◌, ◌%◌, ◌^◌, ◌≤◌, ◌<◌}
use native.Mathlib.Omega.{arith}
use lib.Dec.{eqb}
use lib.ListN.{length, get_or, take, drop}
use Rattle.lists.specs.Bytes.{Bytes, AreBytes}
use Rattle.lists.specs.Laws.{get_d_part}
use Rattle.dictionary.specs.Handles.{turn}
use Rattle.dictionary.proofs.Bits.{turn_byte}
use Rattle.dictionary.proofs.Rows.{part_row}
use Rattle.node.proofs.turns.Goals as goal

bit : (s : Bytes) (at e : ℕ) → AreBytes s → at + 32 ≤ length s → e < 256 → eqb (get_or s (at + (31 - e / 8)) 0 / 2 ^ (e % 8) % 2) 1 ≡ turn e (take 32 (drop at s))
bit s at e a h l =
    ap (λ (x : ℕ). eqb (x / 2 ^ (e % 8) % 2) 1) (sym (get_d_part 32 at (31 - e / 8) s (omega arith)))
    ∙ sym (turn_byte e (take 32 (drop at s)) (part_row s at a h) l)

pub returns : goal.returns
returns c = let a = c.args in bit a.s.now a.at a.e (λ i. (c.shared_slice_known-1.given i).fits) c.requires.0 c.requires.1
