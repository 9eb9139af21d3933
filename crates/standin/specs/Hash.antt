-- 01, "The dispute routine": "a stand-in that XORs the message's 32-byte blocks, the last filled with zeros".
use Rattle.std.specs.Prelude.{◌≡◌, refl, [], ◌∷◌, ◌++◌, ℕ, zero, suc, ◌+◌, ◌/◌, length, take, drop}
use Rattle.std.proofs.Common.{ap, ◌∙◌, get_or-drop}
use Rattle.std.specs.Int.Bits.{bit_xor}
use Rattle.std.proofs.lemmas.Nat.{xor_lt}
use Rattle.lists.specs.Bytes.{Bytes, AreBytes, zeros}
use Rattle.lists.specs.Numbers.{be_bytes, append_bytes, part_bytes}

-- two rows, XORed place by place
unfoldable pub xor_row : Bytes → Bytes → Bytes
xor_row [] ys = []
xor_row (x ∷ xs) [] = x ∷ xs
xor_row (x ∷ xs) (y ∷ ys) = bit_xor x y ∷ xor_row xs ys

-- the first block of m; what m lacks is filled with zeros
abbrev pub block : Bytes → Bytes
block m = take 32 (m ++ zeros)

-- the row, with the first k blocks of m XORed in
unfoldable pub xored : ℕ → Bytes → Bytes → Bytes
xored zero row m = row
xored (suc k) row m = xored k (xor_row row (block m)) (drop 32 m)

-- a message of n bytes has n / 32 blocks, rounded up
unfoldable pub hash_of : Bytes → Bytes
hash_of m = xored ((length m + 31) / 32) zeros m

-- ---- it has 32 bytes

xor_length : (xs ys : Bytes) → length (xor_row xs ys) ≡ length xs
unfolding xor_row
xor_length [] ys = refl
xor_length (x ∷ xs) [] = refl
xor_length (x ∷ xs) (y ∷ ys) = ap suc (xor_length xs ys)

xored_length : (k : ℕ) (row m : Bytes) → length (xored k row m) ≡ length row
unfolding xored
xored_length zero row m = refl
xored_length (suc k) row m = xored_length k (xor_row row (block m)) (drop 32 m) ∙ xor_length row (block m)

pub hash_length : (m : Bytes) → length (hash_of m) ≡ 32
unfolding hash_of
hash_length m = xored_length ((length m + 31) / 32) zeros m

-- ---- and of bytes it gives bytes

xor_bytes : (xs ys : Bytes) → AreBytes xs → AreBytes ys → AreBytes (xor_row xs ys)
unfolding xor_row
xor_bytes [] ys a b i = a i
xor_bytes (x ∷ xs) [] a b i = a i
xor_bytes (x ∷ xs) (y ∷ ys) a b zero = xor_lt 8 x y (a 0) (b 0)
xor_bytes (x ∷ xs) (y ∷ ys) a b (suc i) = xor_bytes xs ys (λ j. a (suc j)) (λ j. b (suc j)) i

-- zeros are bytes
zeros_bytes : AreBytes zeros
zeros_bytes = be_bytes 32 0

xored_bytes : (k : ℕ) (row m : Bytes) → AreBytes row → AreBytes m → AreBytes (xored k row m)
unfolding xored
xored_bytes zero row m a b = a
xored_bytes (suc k) row m a b =
    xored_bytes k (xor_row row (block m)) (drop 32 m) (xor_bytes row (block m) a (part_bytes (m ++ zeros) 0 32 (append_bytes m zeros b zeros_bytes)))
    (λ i. rw (get_or-drop 32 m i 0) (b (32 + i)))

pub hash_bytes : (m : Bytes) → AreBytes m → AreBytes (hash_of m)
unfolding hash_of
hash_bytes m a = xored_bytes ((length m + 31) / 32) zeros m zeros_bytes a
