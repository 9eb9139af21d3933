-- Big-endian numbers: the length of `be`, and both ways round, number to bytes to number and bytes to number to bytes; and that eight bytes are read as
-- the number that they are.
use Rattle.std.specs.Prelude.{◌≡◌, refl, [], ◌∷◌, ◌++◌, ℕ, zero, suc, ◌+◌, ◌*◌, ◌/◌, ◌%◌, ◌^◌, ◌≤◌, ◌<◌, length, get_or, take, drop}
use Rattle.std.proofs.Common.{sym, ap, ap₂, ◌∙◌, pow-suc, div-one, div-add-mod', arith, length-take, get_or-take, get_or-drop}
use Rattle.std.proofs.Math.Nat.{div-eq_of_lt, div-div-eq-div-mul}
use Rattle.std.proofs.Math.Decide.{dec_le}
use Rattle.std.proofs.Math.ListN.{get_or-eq_default}
use Rattle.std.specs.Int.{w64, from_be_bytes}
use Rattle.lists.specs.Bytes.{Bytes, AreBytes, be, number_from, number}

pub be_length : (k n : ℕ) → length (be k n) ≡ k
be_length zero n = refl
be_length (suc k) n = ap suc (be_length k n)

-- one byte less: a shift by 8 bits more
shift : (n k : ℕ) → n / 256 ^ suc k ≡ n / 256 ^ k / 256
shift n k = ap (λ (x : ℕ). n / x) (pow-suc 256 k) ∙ sym (div-div-eq-div-mul n (256 ^ k) 256)

-- ---- number to bytes to number

from_top : (k n : ℕ) → number_from (n / 256 ^ k) (be k n) ≡ n
unfolding number_from
from_top zero n = div-one n
from_top (suc k) n =
    let top : n / 256 ^ suc k * 256 + n / 256 ^ k % 256 ≡ n / 256 ^ k = ap (λ (x : ℕ). x * 256 + n / 256 ^ k % 256) (shift n k) ∙ div-add-mod' (n / 256 ^ k) 256 in
    ap (λ (x : ℕ). number_from x (be k n)) top ∙ from_top k n

pub number_be : (k n : ℕ) → n < 256 ^ k → number (be k n) ≡ n
number_be k n h = ap (λ (x : ℕ). number_from x (be k n)) (sym (div-eq_of_lt h)) ∙ from_top k n

-- ---- bytes to number to bytes

-- the digits that stood before come out again above the bytes
above : (bs : Bytes) (n : ℕ) → AreBytes bs → number_from n bs / 256 ^ length bs ≡ n
unfolding number_from
above [] n a = div-one n
above (b ∷ bs) n a =
    shift (number_from (n * 256 + b) bs) (length bs)
    ∙ ap (λ (x : ℕ). x / 256) (above bs (n * 256 + b) (λ i. a (suc i)))
    ∙ (let h = a 0 in omega arith)

be_from : (bs : Bytes) (n : ℕ) → AreBytes bs → be (length bs) (number_from n bs) ≡ bs
unfolding number_from
be_from [] n a = refl
be_from (b ∷ bs) n a =
    let rest : AreBytes bs = λ i. a (suc i) in
    let top : number_from (n * 256 + b) bs / 256 ^ length bs % 256 ≡ b = rw (above bs (n * 256 + b) rest) (let h = a 0 in omega arith) in
    ap₂ {A = ℕ} {B = Bytes} {C = Bytes} (λ x l. x ∷ l) top (be_from bs (n * 256 + b) rest)

pub be_number : (k : ℕ) (b : Bytes) → length b ≡ k → AreBytes b → be k (number b) ≡ b
be_number k b e a = ap (λ (j : ℕ). be j (number b)) (sym e) ∙ be_from b 0 a

-- ---- the bytes of a number are bytes, and so are those of two strings together, and those of a part

pub be_bytes : (k n : ℕ) → AreBytes (be k n)
be_bytes zero n i = omega arith
be_bytes (suc k) n zero = omega arith
be_bytes (suc k) n (suc i) = be_bytes k n i

pub append_bytes : (a b : Bytes) → AreBytes a → AreBytes b → AreBytes (a ++ b)
append_bytes [] b ha hb i = hb i
append_bytes (x ∷ a) b ha hb zero = ha 0
append_bytes (x ∷ a) b ha hb (suc i) = append_bytes a b (λ j. ha (suc j)) hb i

pub part_bytes : (s : Bytes) (at n : ℕ) → AreBytes s → AreBytes (take n (drop at s))
part_bytes s at n a i = go (dec_le n i)
  where
    go : Dec (n ≤ i) → get_or (take n (drop at s)) i 0 < 256
    go (yes h) = let past = get_or-eq_default (take n (drop at s)) 0 {n = i} (omega (arith, length-take n (drop at s))) in omega arith
    go (no h) = rw (get_or-take n (drop at s) i 0 (omega arith), get_or-drop at s i 0) (a (at + i))

-- ---- `from_be_bytes` of eight bytes is their number

pub eight : (b : Bytes) → length b ≡ 8 → from_be_bytes w64 b ≡ number b
unfolding number_from
eight [] e = absurd (omega arith)
eight (a ∷ []) e = absurd (omega arith)
eight (a ∷ b ∷ []) e = absurd (omega arith)
eight (a ∷ b ∷ c ∷ []) e = absurd (omega arith)
eight (a ∷ b ∷ c ∷ d ∷ []) e = absurd (omega arith)
eight (a ∷ b ∷ c ∷ d ∷ f ∷ []) e = absurd (omega arith)
eight (a ∷ b ∷ c ∷ d ∷ f ∷ g ∷ []) e = absurd (omega arith)
eight (a ∷ b ∷ c ∷ d ∷ f ∷ g ∷ h ∷ []) e = absurd (omega arith)
eight (a ∷ b ∷ c ∷ d ∷ f ∷ g ∷ h ∷ i ∷ []) e = omega arith
eight (a ∷ b ∷ c ∷ d ∷ f ∷ g ∷ h ∷ i ∷ j ∷ k) e = absurd (omega arith)
