-- Words laid into a digest, one behind the other.
use Rattle.std.proofs.Common.{◌≡◌, ◌++◌, List, [], ◌∷◌, ℕ, ◌+◌, ◌*◌, ◌<◌, refl, sym, ap, ◌∙◌, append_assoc, add-one, div-one, arith, length, get_or, take, take-suc}
use Rattle.std.proofs.lemmas.Slice.{put_mid-paste, take-put_mid}
use Rattle.std.proofs.lemmas.List.Edits.{length-paste}
use borrow.Rule.Slice.PartMut.{put_mid}
use Rattle.std.specs.Int.{w32, to_be_bytes}
use Rattle.lists.specs.Bytes.{Bytes, be}

-- the bytes of words, one behind the other
abbrev pub bytes : List ℕ → Bytes
bytes [] = []
bytes (w ∷ ws) = be 4 w ++ bytes ws

pub bytes_append : (a b : List ℕ) → bytes (a ++ b) ≡ bytes a ++ bytes b
bytes_append [] b = refl
bytes_append (w ∷ a) b = ap (λ (x : Bytes). be 4 w ++ x) (bytes_append a b) ∙ sym (append_assoc (be 4 w) (bytes a) (bytes b))

-- one word more
pub bytes_more : (ws : List ℕ) (i : ℕ) → i < length ws → bytes (take (i + 1) ws) ≡ bytes (take i ws) ++ be 4 (get_or ws i 0)
bytes_more ws i h = rw (add-one, take-suc ws i 0 h) (bytes_append (take i ws) (get_or ws i 0 ∷ []))

-- a word's bytes, as the library gives them
word_bytes : (n : ℕ) → to_be_bytes w32 n ≡ be 4 n
word_bytes n = rw div-one

-- and it is laid behind those before it
module _ (ws : List ℕ) (i : ℕ) (out new part : Bytes) (k : ℕ) where
  pub laid : new ≡ put_mid (4 * i) k out part → part ≡ to_be_bytes w32 (get_or ws i 0) → k ≡ 4 → length out ≡ 32 → i < length ws → length ws ≡ 8
      → take (4 * i) out ≡ bytes (take i ws) → (length new ≡ 32) × (take (4 * (i + 1)) new ≡ bytes (take (i + 1) ws))
  laid e p s l h w q =
      let four : length part ≡ 4 = ap length p in
      let whole = put_mid-paste (4 * i) k out part part 4 refl (omega arith) (omega arith) in (
        ap length (e ∙ whole) ∙ length-paste out (4 * i) part 4 (omega arith) (omega arith) ∙ l,
        ap (take (4 * (i + 1))) e
            ∙ take-put_mid (4 * i) k out part (4 * (i + 1)) (omega arith) (omega arith)
            ∙ rw (q, p, word_bytes (get_or ws i 0), bytes_more ws i h) refl,
      )
