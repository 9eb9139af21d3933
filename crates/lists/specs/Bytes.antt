-- Byte strings: whether two are the same, the 32 zero bytes, and big-endian numbers.
use Rattle.std.specs.Prelude.{Bool, true, false, ◌&&◌, List, [], ◌∷◌, ℕ, zero, suc, ◌+◌, ◌*◌, ◌/◌, ◌%◌, ◌^◌, ◌<◌, eqb, get_or, replicate}

abbrev pub Bytes : Type 0
Bytes = List ℕ

-- each number of the list is a byte
abbrev pub AreBytes : Bytes → Type 0
AreBytes b = (i : ℕ) → get_or b i 0 < 256

abbrev pub same : Bytes → Bytes → Bool
same [] [] = true
same [] (y ∷ ys) = false
same (x ∷ xs) [] = false
same (x ∷ xs) (y ∷ ys) = eqb x y && same xs ys

-- what stands for a digest where there is none
abbrev pub zeros : Bytes
zeros = replicate 32 0

-- n in k bytes, the highest first
abbrev pub be : ℕ → ℕ → Bytes
be zero n = []
be (suc k) n = n / 256 ^ k % 256 ∷ be k n

-- the number that the bytes are, after the digits n
unfoldable pub number_from : ℕ → Bytes → ℕ
number_from n [] = n
number_from n (b ∷ bs) = number_from (n * 256 + b) bs

-- the number that the bytes are, the highest first
abbrev pub number : Bytes → ℕ
number bs = number_from 0 bs
