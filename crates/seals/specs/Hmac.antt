-- HMAC of RFC 2104, for any hash H whose blocks have 64 bytes.
use Rattle.std.specs.Prelude.{cond, [], ◌∷◌, ◌++◌, ℕ, ◌-◌, ltb, length, replicate}
use Rattle.std.specs.Int.Bits.{bit_xor}
use Rattle.lists.specs.Bytes.{Bytes}

-- B, the bytes of the hash's block
abbrev pub block_size : ℕ
block_size = 64

-- ipad is "the byte 0x36 repeated B times"
abbrev pub inner : ℕ
inner = 54

-- opad is "the byte 0x5C repeated B times"
abbrev pub outer : ℕ
outer = 92

-- each byte XORed with one byte
unfoldable pub xored : ℕ → Bytes → Bytes
xored x [] = []
xored x (b ∷ bs) = bit_xor b x ∷ xored x bs

module _ (H : Bytes → Bytes) where
  -- keys "longer than B bytes" are hashed first, and the digest is the key
  unfoldable pub short_key : Bytes → Bytes
  short_key key = cond (ltb block_size (length key)) (H key) key

  -- "append zeros to the end of K to create a B byte string"
  unfoldable pub key_block : Bytes → Bytes
  key_block key = short_key key ++ replicate (block_size - length (short_key key)) 0

  -- "H(K XOR opad, H(K XOR ipad, text))"
  unfoldable pub hmac_of : Bytes → Bytes → Bytes
  hmac_of key m = H (xored outer (key_block key) ++ H (xored inner (key_block key) ++ m))
