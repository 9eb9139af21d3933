-- The message of an inner node as it is put together.
use Rattle.std.proofs.Common.{◌≡◌, refl, sym, ap, ap₂, ◌∙◌, [], ◌∷◌, ◌++◌, ◌+◌, arith, length, take, length-append, drop_of_length-le, append-nil}
use Rattle.std.proofs.Math.Seq.{paste}
use Rattle.std.proofs.lemmas.Slice.{put_mid-paste}
use borrow.Rule.Slice.PartMut.{put_mid}
use Rattle.lists.specs.Bytes.{Bytes}
use Rattle.lists.specs.Pasting.{paste_all, paste_more}
use Rattle.dictionary.specs.Trie.{inner_msg}

-- 05, and both sides copied behind it
pub inner_copied : (o a b l r : Bytes) → length o ≡ 65 → take 1 o ≡ 5 ∷ [] → length l ≡ 32 → length r ≡ 32 → a ≡ l → b ≡ r → put_mid 33 32 (put_mid 1 32 o a) b ≡ inner_msg l r
inner_copied o a b l r lo five ll lr ea eb =
    put_mid-paste 33 32 (put_mid 1 32 o a) b r 32 eb refl (sym lr)
    ∙ ap (λ (z : Bytes). paste z 33 r 32) (put_mid-paste 1 32 o a l 32 ea refl (sym ll))
    ∙ paste_more o l r 1 32 32 ll lr (omega arith)
    ∙ paste_all o (l ++ r) 1 64 (length-append l r ∙ omega arith)
    ∙ ap₂ {A = Bytes} {B = Bytes} {C = Bytes} (λ a b. a ++ (l ++ r) ++ b) five (drop_of_length-le o {i = 1 + 64} (omega arith))
    ∙ append-nil (5 ∷ (l ++ r))
