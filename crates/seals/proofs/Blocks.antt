-- Laws on keys and pads: a pad is as long as its block, a key's block has 64 bytes, and the call by its tests.
use Rattle.std.specs.Prelude.{◌≡◌, [], ◌∷◌, ◌++◌, ℕ, suc, ◌+◌, ◌-◌, ◌≤◌, ◌<◌, length, get_or, take, drop, set, replicate}
use Rattle.std.proofs.Math.Path.{refl}
use Rattle.std.proofs.Common.{sym, ap, ap₂, ◌∙◌, append-nil, add-one, arith, drop_of_length-le, take-suc, drop-cons, length-take-le, take_all}
use Rattle.std.specs.Int.Bits.{bit_xor}
use Rattle.std.proofs.lemmas.List.{set_at, get_or_at}
use Rattle.std.proofs.Math.Seq.{append_snoc}
use borrow.Author.Tests.{lt-ltb, le-ltb}
use Rattle.lists.specs.Bytes.{Bytes, zeros}
use Rattle.rules.specs.Refusals.{done, too_long}
use Rattle.rules.specs.Calls.{found}
use Rattle.seals.specs.Hmac.{block_size, xored, short_key, key_block, hmac_of}
use Rattle.seals.specs.Calls.{key_limit, message_limit, mac_call}

-- ---- pads

pub xored_length : (x : ℕ) (b : Bytes) → length (xored x b) ≡ length b
unfolding xored
xored_length x [] = refl
xored_length x (b ∷ bs) = ap suc (xored_length x bs)

pub xored_append : (x : ℕ) (a b : Bytes) → xored x (a ++ b) ≡ xored x a ++ xored x b
unfolding xored
xored_append x [] b = refl
xored_append x (c ∷ a) b = ap (λ (l : Bytes). bit_xor c x ∷ l) (xored_append x a b)

-- a block whose first i bytes are XORed
abbrev pub halfway : ℕ → Bytes → ℕ → Bytes
halfway x b i = xored x (take i b) ++ drop i b

-- byte i is still the block's, and XORed it is one more
module _ (x : ℕ) (b : Bytes) (i : ℕ) (h : i < length b) where
  front : length (xored x (take i b)) ≡ i
  front = xored_length x (take i b) ∙ length-take-le i b (omega arith)

  split : halfway x b i ≡ xored x (take i b) ++ get_or b i 0 ∷ drop (suc i) b
  split = ap (λ (l : Bytes). xored x (take i b) ++ l) (drop-cons b i 0 h)

  single : (y : ℕ) → xored x (y ∷ []) ≡ bit_xor y x ∷ []
  unfolding xored
  single y = refl

  pub halfway_next : set (halfway x b i) i (bit_xor (get_or (halfway x b i) i 0) x) ≡ halfway x b (i + 1)
  halfway_next =
      let p = xored x (take i b) in
      let y = get_or b i 0 in
      let v : get_or (halfway x b i) i 0 ≡ y = ap (λ (l : Bytes). get_or l i 0) split ∙ get_or_at p y (drop (suc i) b) 0 i front in
      let one : xored x (take (suc i) b) ≡ p ++ (bit_xor y x ∷ []) = ap (xored x) (take-suc b i 0 h) ∙ xored_append x (take i b) (y ∷ []) ∙ ap (λ (l : Bytes). p ++ l) (single y) in
      ap (λ (n : ℕ). set (halfway x b i) i (bit_xor n x)) v
      ∙ ap (λ (l : Bytes). set l i (bit_xor y x)) split
      ∙ set_at p y (drop (suc i) b) (bit_xor y x) i front
      ∙ sym (append_snoc p (bit_xor y x) (drop (suc i) b))
      ∙ ap (λ (l : Bytes). l ++ drop (suc i) b) (sym one)
      ∙ ap (halfway x b) (sym (add-one i))

-- none is XORed at the start, and at the end each is
pub halfway_none : (x : ℕ) (b : Bytes) → b ≡ halfway x b 0
unfolding xored
halfway_none x b = refl

pub halfway_all : (x : ℕ) (b : Bytes) (i : ℕ) → length b ≤ i → halfway x b i ≡ xored x b
halfway_all x b i h =
    ap₂ {A = Bytes} {B = Bytes} {C = Bytes} (λ p q. xored x p ++ q) (take_all i b h) (drop_of_length-le b {i = i} h) ∙ append-nil (xored x b)

-- ---- keys

module _ (H : Bytes → Bytes) (key : Bytes) where
  -- a longer key is hashed,
  pub block_long : block_size < length key → key_block H key ≡ H key ++ replicate (block_size - length (H key)) 0
  unfolding key_block short_key
  block_long h = rw (lt-ltb block_size (length key) h)

  -- another stays
  pub block_short : length key ≤ block_size → key_block H key ≡ key ++ replicate (block_size - length key) 0
  unfolding key_block short_key
  block_short h = rw (le-ltb block_size (length key) h)

  -- ---- the call, by its tests

  pub key_long_lem : (m : Bytes) → key_limit < length key → mac_call H key m ≡ found too_long zeros
  unfolding mac_call
  key_long_lem m h = rw (lt-ltb key_limit (length key) h)

  pub message_long : (m : Bytes) → length key ≤ key_limit → message_limit < length m → mac_call H key m ≡ found too_long zeros
  unfolding mac_call
  message_long m k h = rw (le-ltb key_limit (length key) k, lt-ltb message_limit (length m) h)

  pub mac_done : (m : Bytes) → length key ≤ key_limit → length m ≤ message_limit → mac_call H key m ≡ found done (hmac_of H key m)
  unfolding mac_call
  mac_done m k h = rw (le-ltb key_limit (length key) k, le-ltb message_limit (length m) h)
