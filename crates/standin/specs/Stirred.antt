-- The stand-in byte by byte, as code XORs: byte i of the message goes to place i % 32. Any cutting of the message gives the same.
use Rattle.std.specs.Prelude.{◌≡◌, refl, [], ◌∷◌, ◌++◌, ℕ, zero, suc, ◌+◌, ◌*◌, ◌/◌, ◌%◌, ◌≤◌, ◌<◌, get_or, set, take, drop, replicate}
use Rattle.std.proofs.Math.Path.{sym, ap}
use Rattle.std.proofs.Common.{ap₂, ◌∙◌, append_assoc, append-nil, arith, add-zero, mod-eq_of_lt, lit<, length-set, length-append, length-drop, take-append-drop, drop_of_length-le, take_all, length-take-le}
use Rattle.std.proofs.Math.Decide.{dec_le}
use Rattle.std.specs.Int.Bits.{bit_xor, xor_zero_r}
use Rattle.std.proofs.Math.ListN.{length}
use Rattle.std.proofs.lemmas.List.{set_at, get_or_at, take-append-le}
use Rattle.lists.specs.Bytes.{Bytes, zeros}
use Rattle.standin.specs.Hash.{xor_row, block, xored, hash_of}

-- the row with one byte XORed in at place k
abbrev pub xor_at : ℕ → Bytes → ℕ → Bytes
xor_at k row x = set row k (bit_xor (get_or row k 0) x)

-- the row with the bytes XORed in one by one, from place k on, and round again
unfoldable pub stirred : ℕ → Bytes → Bytes → Bytes
stirred k row [] = row
stirred k row (x ∷ xs) = stirred ((k + 1) % 32) (xor_at k row x) xs

pub stirred_length : (m : Bytes) (k : ℕ) (row : Bytes) → length (stirred k row m) ≡ length row
unfolding stirred
stirred_length [] k row = refl
stirred_length (x ∷ xs) k row = stirred_length xs ((k + 1) % 32) (xor_at k row x) ∙ length-set row k _

-- any cutting gives the same
pub stirred_append : (a b : Bytes) (k : ℕ) (row : Bytes) → k < 32 → stirred k row (a ++ b) ≡ stirred ((k + length a) % 32) (stirred k row a) b
unfolding stirred
stirred_append [] b k row h = let e : (k + 0) % 32 ≡ k = rw add-zero (mod-eq_of_lt h) in rw e
stirred_append (x ∷ a) b k row h =
    let e : ((k + 1) % 32 + length a) % 32 ≡ (k + suc (length a)) % 32 = omega arith in
    rw (← e) (stirred_append a b ((k + 1) % 32) (xor_at k row x) (omega arith))

-- ---- block by block is byte by byte

-- zeros change nothing
xor_zeros : (s : Bytes) (k : ℕ) → xor_row s (replicate k 0) ≡ s
unfolding xor_row
xor_zeros [] k = refl
xor_zeros (x ∷ s) zero = refl
xor_zeros (x ∷ s) (suc k) = ap₂ {A = ℕ} {B = Bytes} {C = Bytes} (λ y t. y ∷ t) (xor_zero_r x) (xor_zeros s k)

-- bytes that fit the rest s of a row, from place k on
within : (b pre s : Bytes) (k z : ℕ) → length pre ≡ k → k + length s ≡ 32 → length b ≤ length s → stirred (k % 32) (pre ++ s) b ≡ pre ++ xor_row s (b ++ replicate z 0)
unfolding stirred xor_row
within [] pre s k z ep es h = ap (λ (x : Bytes). pre ++ x) (sym (xor_zeros s z))
within (x ∷ b) pre [] k z ep es h = absurd (omega arith)
within (x ∷ b) pre (y ∷ s) k z ep es h =
    let e : k % 32 ≡ k = mod-eq_of_lt (omega arith) in
    let g : get_or (pre ++ y ∷ s) k 0 ≡ y = get_or_at pre y s 0 k ep in
    let p : xor_at k (pre ++ y ∷ s) x ≡ (pre ++ (bit_xor y x ∷ [])) ++ s =
    ap (λ (v : ℕ). set (pre ++ y ∷ s) k (bit_xor v x)) g ∙ set_at pre y s (bit_xor y x) k ep ∙ sym (append_assoc pre (bit_xor y x ∷ []) s) in
    ap (λ (j : ℕ). stirred ((j + 1) % 32) (xor_at j (pre ++ y ∷ s) x) b) e
    ∙ ap (λ (row : Bytes). stirred ((k + 1) % 32) row b) p
    ∙ within b (pre ++ (bit_xor y x ∷ [])) s (k + 1) z (length-append pre (bit_xor y x ∷ []) ∙ ap (λ (j : ℕ). j + 1) ep) (omega arith) (omega arith)
    ∙ append_assoc pre (bit_xor y x ∷ []) (xor_row s (b ++ replicate z 0))

-- a row takes no more bytes than it has places
xor_front : (s ys : Bytes) (n : ℕ) → length s ≤ n → xor_row s (take n ys) ≡ xor_row s ys
unfolding xor_row
xor_front [] ys n h = refl
xor_front (x ∷ s) ys zero h = absurd (omega arith)
xor_front (x ∷ s) [] (suc n) h = refl
xor_front (x ∷ s) (y ∷ ys) (suc n) h = ap (λ (t : Bytes). bit_xor x y ∷ t) (xor_front s ys n (omega arith))

module _ (row m : Bytes) (r : length row ≡ 32) where
  one_block : Dec (32 ≤ length m) → stirred 0 row (take 32 m) ≡ xor_row row (block m)
  one_block (yes h) =
      within (take 32 m) [] row 0 0 refl (omega arith) (let e = length-take-le 32 m h in omega arith)
      ∙ ap (λ (x : Bytes). xor_row row x) (append-nil (take 32 m) ∙ sym (take-append-le 32 m zeros h))
  one_block (no h) =
      let e : take 32 m ≡ m = take_all 32 m (omega arith) in
      ap (λ (x : Bytes). stirred 0 row x) e ∙ within m [] row 0 32 refl (omega arith) (omega arith) ∙ sym (xor_front row (m ++ zeros) 32 (omega arith))

  other_blocks : Dec (32 ≤ length m) → stirred 0 (stirred 0 row (take 32 m)) (drop 32 m) ≡ stirred 0 row m
  unfolding stirred
  other_blocks (yes h) =
      let i : (0 + length (take 32 m)) % 32 ≡ 0 = ap (λ (x : ℕ). (0 + x) % 32) (length-take-le 32 m h) in
      ap (λ (x : ℕ). stirred x (stirred 0 row (take 32 m)) (drop 32 m)) (sym i)
      ∙ sym (stirred_append (take 32 m) (drop 32 m) 0 row (lit< tt))
      ∙ ap (λ (x : Bytes). stirred 0 row x) (take-append-drop 32 m)
  other_blocks (no h) =
      ap (λ (x : Bytes). stirred 0 (stirred 0 row (take 32 m)) x) (drop_of_length-le m {i = 32} (omega arith))
      ∙ ap (λ (x : Bytes). stirred 0 row x) (take_all 32 m (omega arith))

xored_stirred : (k : ℕ) (m row : Bytes) → length row ≡ 32 → length m ≤ 32 * k → xored k row m ≡ stirred 0 row m
unfolding xored stirred
xored_stirred zero [] row r h = refl
xored_stirred zero (x ∷ m) row r h = absurd (omega arith)
xored_stirred (suc k) m row r h =
    let l = length-drop 32 m in
    ap (λ (x : Bytes). xored k x (drop 32 m)) (sym (one_block row m r (dec_le 32 (length m))))
    ∙ xored_stirred k (drop 32 m) (stirred 0 row (take 32 m)) (stirred_length (take 32 m) 0 row ∙ r) (omega arith)
    ∙ other_blocks row m r (dec_le 32 (length m))

-- the XOR of the blocks, byte by byte
pub hash_stirred : (m : Bytes) → hash_of m ≡ stirred 0 zeros m
unfolding hash_of
hash_stirred m = xored_stirred ((length m + 31) / 32) m zeros refl (omega arith)
