-- SHA-256, as FIPS 180-4 defines it. The numbers in front of the comments are its sections.
-- A word is a number below 2 ^ 32, a byte one below 256, and a message a list of bytes.
use Rattle.std.specs.Prelude.{ℕ, zero, suc, ◌+◌, ◌-◌, ◌*◌, ◌/◌, ◌%◌, ◌^◌, cond, List, [], ◌∷◌, ◌++◌, ltb, length, get_or, take, drop, replicate}
use Rattle.std.specs.Int.Bits.{bit_and, bit_or, bit_xor}
use Rattle.lists.specs.Bytes.{Bytes, be}
use Rattle.fips.specs.declared.Words.{Words}

-- 3.2: sums of words, a word shifted right by n bits, and one turned right by n bits
infixl 65 ◌⊞◌
abbrev pub ◌⊞◌ : ℕ → ℕ → ℕ
x ⊞ y = (x + y) % 2 ^ 32

abbrev pub shr : ℕ → ℕ → ℕ
shr n x = x / 2 ^ n

abbrev pub rotr : ℕ → ℕ → ℕ
rotr n x = bit_or (x / 2 ^ n) (x * 2 ^ (32 - n) % 2 ^ 32)

-- 4.1.2: the six functions
abbrev pub ch : ℕ → ℕ → ℕ → ℕ
ch x y z = bit_xor (bit_and x y) (bit_and (2 ^ 32 - 1 - x) z)

abbrev pub maj : ℕ → ℕ → ℕ → ℕ
maj x y z = bit_xor (bit_xor (bit_and x y) (bit_and x z)) (bit_and y z)

abbrev pub Σ0 : ℕ → ℕ
Σ0 x = bit_xor (bit_xor (rotr 2 x) (rotr 13 x)) (rotr 22 x)

abbrev pub Σ1 : ℕ → ℕ
Σ1 x = bit_xor (bit_xor (rotr 6 x) (rotr 11 x)) (rotr 25 x)

abbrev pub σ0 : ℕ → ℕ
σ0 x = bit_xor (bit_xor (rotr 7 x) (rotr 18 x)) (shr 3 x)

abbrev pub σ1 : ℕ → ℕ
σ1 x = bit_xor (bit_xor (rotr 17 x) (rotr 19 x)) (shr 10 x)

-- 4.2.2: the sixty-four constants
unfoldable pub K : List ℕ
K =
    0x428a2f98 ∷ 0x71374491 ∷ 0xb5c0fbcf ∷ 0xe9b5dba5 ∷ 0x3956c25b ∷ 0x59f111f1 ∷ 0x923f82a4 ∷ 0xab1c5ed5 ∷
    0xd807aa98 ∷ 0x12835b01 ∷ 0x243185be ∷ 0x550c7dc3 ∷ 0x72be5d74 ∷ 0x80deb1fe ∷ 0x9bdc06a7 ∷ 0xc19bf174 ∷
    0xe49b69c1 ∷ 0xefbe4786 ∷ 0x0fc19dc6 ∷ 0x240ca1cc ∷ 0x2de92c6f ∷ 0x4a7484aa ∷ 0x5cb0a9dc ∷ 0x76f988da ∷
    0x983e5152 ∷ 0xa831c66d ∷ 0xb00327c8 ∷ 0xbf597fc7 ∷ 0xc6e00bf3 ∷ 0xd5a79147 ∷ 0x06ca6351 ∷ 0x14292967 ∷
    0x27b70a85 ∷ 0x2e1b2138 ∷ 0x4d2c6dfc ∷ 0x53380d13 ∷ 0x650a7354 ∷ 0x766a0abb ∷ 0x81c2c92e ∷ 0x92722c85 ∷
    0xa2bfe8a1 ∷ 0xa81a664b ∷ 0xc24b8b70 ∷ 0xc76c51a3 ∷ 0xd192e819 ∷ 0xd6990624 ∷ 0xf40e3585 ∷ 0x106aa070 ∷
    0x19a4c116 ∷ 0x1e376c08 ∷ 0x2748774c ∷ 0x34b0bcb5 ∷ 0x391c0cb3 ∷ 0x4ed8aa4a ∷ 0x5b9cca4f ∷ 0x682e6ff3 ∷
    0x748f82ee ∷ 0x78a5636f ∷ 0x84c87814 ∷ 0x8cc70208 ∷ 0x90befffa ∷ 0xa4506ceb ∷ 0xbef9a3f7 ∷ 0xc67178f2 ∷
    []

-- 3.1: the word that four bytes are, the first byte the highest; back, a word's bytes are its `be 4`
abbrev pub word : Bytes → ℕ → ℕ
word m i = get_or m i 0 * 2 ^ 24 + get_or m (i + 1) 0 * 2 ^ 16 + get_or m (i + 2) 0 * 2 ^ 8 + get_or m (i + 3) 0

-- 5.1.1: after a message of n bytes comes the bit 1, the fewest zero bits that leave 64 bits of the last block, and the number of bits
unfoldable pub padding : ℕ → Bytes
padding n = 0x80 ∷ replicate ((119 - n % 64) % 64) 0 ++ be 8 (n * 8)

unfoldable pub padded : Bytes → Bytes
padded m = m ++ padding (length m)

-- 5.2.1: block i, counted from 0
abbrev pub block : ℕ → Bytes → Bytes
block i m = take 64 (drop (64 * i) m)

-- 5.3.3: the initial hash value
unfoldable pub H0 : Words
H0 =
    record {
      a = 0x6a09e667;
      b = 0xbb67ae85;
      c = 0x3c6ef372;
      d = 0xa54ff53a;
      e = 0x510e527f;
      f = 0x9b05688c;
      g = 0x1f83d9ab;
      h = 0x5be0cd19;
    }

-- 6.2.2, step 1: the message schedule. `schedule t m` is its first t words for the block m
abbrev pub mix : ℕ → ℕ → ℕ → ℕ → ℕ
mix w2 w7 w15 w16 = σ1 w2 ⊞ w7 ⊞ σ0 w15 ⊞ w16

unfoldable pub next : ℕ → Bytes → List ℕ → ℕ
next t m w =
    cond (ltb t 16) (word m (4 * t))
    (mix (get_or w (t - 2) 0) (get_or w (t - 7) 0) (get_or w (t - 15) 0) (get_or w (t - 16) 0))

unfoldable pub schedule : ℕ → Bytes → List ℕ
schedule zero m = []
schedule (suc t) m = schedule t m ++ (next t m (schedule t m) ∷ [])

-- steps 2 and 3: the working words after one round, and after the first t rounds with the schedule w
unfoldable pub T1 : ℕ → ℕ → Words → ℕ
T1 k w v = v.h ⊞ Σ1 v.e ⊞ ch v.e v.f v.g ⊞ k ⊞ w

unfoldable pub T2 : Words → ℕ
T2 v = Σ0 v.a ⊞ maj v.a v.b v.c

unfoldable pub round : ℕ → ℕ → Words → Words
round k w v =
    record {
      a = T1 k w v ⊞ T2 v;
      b = v.a;
      c = v.b;
      d = v.c;
      e = v.d ⊞ T1 k w v;
      f = v.e;
      g = v.f;
      h = v.g;
    }

unfoldable pub rounds : ℕ → List ℕ → Words → Words
rounds zero w v = v
rounds (suc t) w v = round (get_or K t 0) (get_or w t 0) (rounds t w v)

-- step 4: the next hash value
abbrev pub plus : Words → Words → Words
plus s v =
    record {
      a = s.a ⊞ v.a;
      b = s.b ⊞ v.b;
      c = s.c ⊞ v.c;
      d = s.d ⊞ v.d;
      e = s.e ⊞ v.e;
      f = s.f ⊞ v.f;
      g = s.g ⊞ v.g;
      h = s.h ⊞ v.h;
    }

unfoldable pub compress : Words → Bytes → Words
compress s m = plus s (rounds 64 (schedule 64 m) s)

-- the hash value after the first i blocks of m, where it was s before them
unfoldable pub chained : Words → ℕ → Bytes → Words
chained s zero m = s
chained s (suc i) m = compress (chained s i m) (block i m)

-- the message digest: the last hash value as bytes
abbrev pub bytes_of : Words → Bytes
bytes_of s =
    be 4 s.a ++ be 4 s.b ++ be 4 s.c ++ be 4 s.d ++
    be 4 s.e ++ be 4 s.f ++ be 4 s.g ++ be 4 s.h

unfoldable pub sha256 : Bytes → Bytes
sha256 m = bytes_of (chained H0 (length (padded m) / 64) (padded m))
