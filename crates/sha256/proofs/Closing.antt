-- The padding of FIPS 180-4, as `padded` writes it behind the rest of a message, and into one block more where the count does not fit in.
use mathlib.Core.Path.{◌≡◌, refl, sym, ap, ap₂, ◌∙◌}
use mathlib.Core.List.{[], ◌∷◌, ◌++◌, append_assoc, append-nil}
use Prim.Native.Nat.{ℕ, ◌+◌, ◌-◌, ◌*◌, ◌/◌, ◌%◌, ◌≤◌, ◌<◌, zero-le}
use native.Mathlib.Nat.{zero-add, div-one}
use Rattle.std.specs.Int.{w64, to_be_bytes}
use native.Mathlib.Omega.{arith}
use lib.ListN.{length, take, drop, replicate, length-append, length-replicate, replicate-append-replicate, drop_of_length-le}
use lib.Seq.{paste, take_all, take_at, drop_at}
use Rattle.lists.specs.Bytes.{Bytes, be}
use Rattle.lists.specs.Pasting.{paste_all, paste_more}
use Rattle.fips.specs.Sha256.{padding, compress, chained}
use Rattle.sha256.specs.Runs.{zeros}
use Rattle.sha256.specs.Ending.{ended}
use Rattle.fips.specs.declared.Words.{Words}

-- the eight bytes of a count, as the library gives them
pub counted_bytes : (n : ℕ) → to_be_bytes w64 n ≡ be 8 n
counted_bytes n = rw div-one

-- the bit 1 and n zero bytes
abbrev mark : ℕ → Bytes
mark n = 0x80 ∷ replicate n 0

mark_more : (a b : ℕ) → mark (a + b) ≡ mark a ++ replicate b 0
mark_more a b = ap {B = Bytes} (λ l. 0x80 ∷ l) (sym (replicate-append-replicate a b 0))

mark_length : (n : ℕ) → length (mark n) ≡ n + 1
mark_length n = let l = length-replicate {A = ℕ} n 0 in omega arith

drop_zeros : (k n : ℕ) → k ≤ n → drop {A = ℕ} k (replicate n 0) ≡ replicate (n - k) 0
drop_zeros k n h =
    let e : n ≡ k + (n - k) = omega arith in
    ap (λ (i : ℕ). drop {A = ℕ} k (replicate i 0)) e
    ∙ ap (drop k) (sym (replicate-append-replicate k (n - k) 0))
    ∙ drop_at (replicate k 0) (replicate (n - k) 0) k (length-replicate k 0)

-- bytes at the front of a block of zeros
front : (x : Bytes) (k : ℕ) → length x ≡ k → k ≤ 64 → paste zeros 0 x k ≡ x ++ replicate (64 - k) 0
front x k l h =
    let e : 64 - (0 + k) ≡ 64 - k = omega arith in
    paste_all zeros x 0 k l ∙ ap (λ (b : Bytes). x ++ b) (drop_zeros (0 + k) 64 (omega arith) ∙ ap (λ (i : ℕ). replicate i 0) e)

module _ (rest : Bytes) where
  abbrev f : ℕ
  f = length rest

  -- the mark behind them
  abbrev marked : Bytes
  marked = paste (paste zeros 0 rest f) f (0x80 ∷ []) 1

  marked_is : f < 64 → marked ≡ rest ++ mark (63 - f)
  marked_is h =
      let e : 64 - (f + 1) ≡ 63 - f = omega arith in
      ap (λ (n : ℕ). paste (paste zeros 0 rest f) n (0x80 ∷ []) 1) (sym (zero-add f))
      ∙ paste_more zeros rest (0x80 ∷ []) 0 f 1 refl refl zero-le
      ∙ front (rest ++ (0x80 ∷ [])) (f + 1) (length-append rest (0x80 ∷ [])) (omega arith)
      ∙ append_assoc rest (0x80 ∷ []) (replicate (64 - (f + 1)) 0)
      ∙ ap (λ (n : ℕ). rest ++ mark n) e

  module _ (count : Bytes) (lc : length count ≡ 8) where
    -- the count takes the last eight bytes of the marked block
    counted : f < 56 → paste marked 56 count 8 ≡ rest ++ (mark (55 - f) ++ count)
    counted h =
        let n : 63 - f ≡ (55 - f) + 8 = omega arith in
        let y : Bytes = rest ++ mark (55 - f) in
        let ly : length y ≡ 56 = length-append rest (mark (55 - f)) ∙ omega (arith, mark_length (55 - f)) in
        let whole : marked ≡ y ++ replicate 8 0 =
        marked_is (omega arith) ∙ ap (λ (i : ℕ). rest ++ mark i) n ∙ ap (λ (b : Bytes). rest ++ b) (mark_more (55 - f) 8) ∙ sym (append_assoc rest (mark (55 - f)) (replicate 8 0)) in
        let l8 = length-append y (replicate 8 0) in
        ap (λ (b : Bytes). paste b 56 count 8) whole
        ∙ paste_all (y ++ replicate 8 0) count 56 8 lc
        ∙ ap₂ (λ (a b : Bytes). a ++ count ++ b) (take_at y (replicate 8 0) 56 ly) (drop_of_length-le (y ++ replicate 8 0) {i = 56 + 8} (omega arith))
        ∙ append-nil (y ++ count)
        ∙ append_assoc rest (mark (55 - f)) count

    -- a block of zeros with the count at its end
    last_is : paste zeros 56 count 8 ≡ replicate 56 0 ++ count
    last_is = paste_all zeros count 56 8 lc ∙ append-nil (replicate 56 0 ++ count)

-- one block, and two
one_block : (w : Words) (b : Bytes) → length b ≡ 64 → compress w b ≡ chained w (length b / 64) b
unfolding chained
one_block w b l = rw l (ap (compress w) (sym (take_all 64 b (omega arith))))

two_blocks : (w : Words) (a b : Bytes) → length a ≡ 64 → length b ≡ 64 → compress (compress w a) b ≡ chained w (length (a ++ b) / 64) (a ++ b)
unfolding chained
two_blocks w a b la lb =
    let l : length (a ++ b) ≡ 128 = length-append a b ∙ omega arith in
    rw l (ap₂ (λ (x y : Bytes). compress (compress w x) y)
    (sym (take_at a b 64 la))
    (sym (ap (take 64) (drop_at a b 64 la) ∙ take_all 64 b (omega arith))))

module _ (w r : Words) (rest count x y : Bytes) (n : ℕ) (e : length rest ≡ n % 64) (ec : count ≡ be 8 (n * 8))
    (ex : x ≡ paste zeros 0 rest (length rest)) (ey : y ≡ paste x (length rest) (0x80 ∷ []) 1) where
  padding_is : (z : ℕ) → (119 - length rest) % 64 ≡ z → padding n ≡ mark z ++ count
  unfolding padding
  padding_is z h = rw (← e, h, ec)

  lc : length count ≡ 8
  lc = ap length ec

  block_is : y ≡ marked rest
  block_is = ey ∙ ap (λ (b : Bytes). paste b (length rest) (0x80 ∷ []) 1) ex

  -- z is the block with mark and count, and r the hash value after it
  pub padded_short : (z : Bytes) → length rest < 56 → z ≡ paste y 56 count 8 → r ≡ compress w z → r ≡ ended w rest n
  unfolding ended
  padded_short z h ez er =
      let f : ℕ = length rest in
      let z_is : z ≡ rest ++ padding n =
      ez
      ∙ ap (λ (b : Bytes). paste b 56 count 8) block_is
      ∙ counted rest count lc h
      ∙ ap (λ (b : Bytes). rest ++ b) (sym (padding_is (55 - f) (omega arith))) in
      let lz : length (rest ++ padding n) ≡ 64 =
      ap (λ (b : Bytes). length (rest ++ b)) (padding_is (55 - f) (omega arith))
      ∙ length-append rest (mark (55 - f) ++ count)
      ∙ omega (arith, length-append (mark (55 - f)) count, mark_length (55 - f), lc) in
      er ∙ ap (compress w) z_is ∙ one_block w (rest ++ padding n) lz

  -- z is the block behind that with the mark, with the count, and v and r the hash values after them
  pub padded_long : (z : Bytes) (v : Words) → 56 ≤ length rest → length rest < 64 → z ≡ paste zeros 56 count 8 → v ≡ compress w y → r ≡ compress v z → r ≡ ended w rest n
  unfolding ended
  padded_long z v h g ez ev er =
      let f : ℕ = length rest in
      let a : Bytes = rest ++ mark (63 - f) in
      let b : Bytes = replicate 56 0 ++ count in
      let la : length a ≡ 64 = length-append rest (mark (63 - f)) ∙ omega (arith, mark_length (63 - f)) in
      let lb : length b ≡ 64 = length-append (replicate 56 0) count ∙ omega (arith, lc) in
      let whole : rest ++ padding n ≡ a ++ b =
      ap (λ (p : Bytes). rest ++ p)
      (padding_is ((63 - f) + 56) (omega arith) ∙ ap (λ (p : Bytes). p ++ count) (mark_more (63 - f) 56) ∙ append_assoc (mark (63 - f)) (replicate 56 0) count)
      ∙ sym (append_assoc rest (mark (63 - f)) b) in
      er
      ∙ ap₂ (λ (u : Words) (c : Bytes). compress u c) (ev ∙ ap (compress w) (block_is ∙ marked_is rest g)) (ez ∙ last_is rest count lc)
      ∙ two_blocks w a b la lb
      ∙ ap (λ (c : Bytes). chained w (length c / 64) c) (sym whole)
