-- Bytes copied into a block, as the library leaves them: what is pasted is stored one by one.
use Rattle.std.proofs.Common.{◌≡◌, refl, sym, ap, ◌∙◌, ℕ, ◌+◌, ◌≤◌, ◌<◌, [], ◌∷◌, ◌++◌, length, take, drop, set, take_all, arith}
use Rattle.std.proofs.Math.Seq.{paste}
use Rattle.std.proofs.lemmas.List.Edits.{sets, sets-eq}
use Rattle.std.proofs.lemmas.Slice.{put_mid-paste}
use borrow.Rule.Slice.PartMut.{put_mid}
use Rattle.lists.specs.Bytes.{Bytes}

pub pasted : (b : Bytes) (at : ℕ) (m : Bytes) → at + length m ≤ length b → paste b at m (length m) ≡ sets b at m
pasted b at m h =
    ap (λ (x : Bytes). take at b ++ x ++ drop (at + length m) b) (take_all (length m) m (omega arith)) ∙ sym (sets-eq m b at h)

-- one byte
pub stored : (b : Bytes) (at x : ℕ) → at < length b → set b at x ≡ paste b at (x ∷ []) 1
stored b at x h = sym (pasted b at (x ∷ []) (omega arith))

-- a part of k bytes that is replaced by as many
pub copied : (b new m : Bytes) (at k : ℕ) → new ≡ m → k ≡ length m → put_mid at k b new ≡ paste b at m (length m)
copied b new m at k e p = put_mid-paste at k b new m (length m) e (sym p) refl
