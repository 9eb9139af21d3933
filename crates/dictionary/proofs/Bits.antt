-- A handle as a number: its bits by its bytes, its four words, and the handle back from the number.
use Rattle.std.specs.Prelude.{◌≡◌, refl, [], ◌∷◌, ◌++◌, ℕ, zero, suc, ◌+◌, ◌-◌, ◌*◌, ◌/◌, ◌%◌, ◌^◌, ◌≤◌, ◌<◌, eqb, length, get_or, take, drop}
use Rattle.std.proofs.Common.{sym, ap, ◌∙◌, zero-add, pow-suc, mul_assoc, add-mul, mul-le-mul_right, lt_of_lt_of_le, arith, pow-add, take-add, drop-drop}
use Rattle.std.proofs.Math.Nat.{pow-succ', div-eq_of_lt, div-div-eq-div-mul}
use Rattle.lists.specs.Laws.{length_part}
use Rattle.lists.specs.Bytes.{Bytes, AreBytes, be, number_from, number}
use Rattle.lists.specs.Numbers.{be_number, part_bytes}
use Rattle.dictionary.specs.Handles.{turn}
use Rattle.dictionary.proofs.Rows.{Row}

-- ---- there and back

number_bound : (bs : Bytes) (n : ℕ) → AreBytes bs → number_from n bs < (n + 1) * 256 ^ length bs
unfolding number_from
number_bound [] n a = omega arith
number_bound (b ∷ bs) n a =
    let h = a 0 in
    let less : n * 256 + b + 1 ≤ (n + 1) * 256 = omega arith in
    lt_of_lt_of_le (number_bound bs (n * 256 + b) (λ i. a (suc i)))
    (rw (pow-succ' 256 (length bs), ← (mul_assoc (n + 1) 256 (256 ^ length bs))) (mul-le-mul_right (256 ^ length bs) less))

-- no bit stands before the 256 bits of a row
pub row_below : (h : Bytes) → Row h → number h / 2 ^ 256 ≡ 0
row_below h r =
    let e : (0 + 1) * 256 ^ length h ≡ 2 ^ 256 = ap (λ (n : ℕ). (0 + 1) * 256 ^ n) r.whole in
    div-eq_of_lt (rw e at (number_bound h 0 r.bytes))

-- rows of one number are one row
pub row_equal : (h k : Bytes) → Row h → Row k → number h ≡ number k → h ≡ k
row_equal h k r s e = sym (be_number 32 h r.whole r.bytes) ∙ ap (be 32) e ∙ be_number 32 k s.whole s.bytes

-- ---- its bits

be_at : (k i n : ℕ) → i < k → get_or (be k n) i 0 ≡ n / 256 ^ (k - 1 - i) % 256
be_at zero i n h = absurd (omega arith)
be_at (suc k) zero n h = let e : suc k - 1 - 0 ≡ k = omega arith in rw e
be_at (suc k) (suc i) n h = let e : suc k - 1 - suc i ≡ k - 1 - i = omega arith in be_at k i n (omega arith) ∙ rw e

low : (y r : ℕ) → r < 8 → y % 256 / 2 ^ r % 2 ≡ y / 2 ^ r % 2
low y zero h = omega arith
low y (suc zero) h = omega arith
low y (suc (suc zero)) h = omega arith
low y (suc (suc (suc zero))) h = omega arith
low y (suc (suc (suc (suc zero)))) h = omega arith
low y (suc (suc (suc (suc (suc zero))))) h = omega arith
low y (suc (suc (suc (suc (suc (suc zero)))))) h = omega arith
low y (suc (suc (suc (suc (suc (suc (suc zero))))))) h = omega arith
low y (suc (suc (suc (suc (suc (suc (suc (suc r)))))))) h = absurd (omega arith)

eights : (q : ℕ) → 2 ^ (8 * q) ≡ 256 ^ q
eights zero = refl
eights (suc q) =
    let e : 8 * suc q ≡ 8 * q + 8 = omega arith in
    ap (λ (x : ℕ). 2 ^ x) e ∙ pow-add 2 (8 * q) 8 ∙ ap (λ (x : ℕ). x * 256) (eights q) ∙ sym (pow-suc 256 q)

pow_cut : (e : ℕ) → 2 ^ e ≡ 256 ^ (e / 8) * 2 ^ (e % 8)
pow_cut e =
    let c : e ≡ 8 * (e / 8) + e % 8 = omega arith in
    ap (λ (x : ℕ). 2 ^ x) c ∙ pow-add 2 (8 * (e / 8)) (e % 8) ∙ ap (λ (x : ℕ). x * 2 ^ (e % 8)) (eights (e / 8))

-- A BIT BY ITS BYTE: the bit that has e bits behind it stands in byte 31 - e / 8, with e % 8 bits of it behind.
pub turn_byte : (e : ℕ) (h : Bytes) → Row h → e < 256 → turn e h ≡ eqb (get_or h (31 - e / 8) 0 / 2 ^ (e % 8) % 2) 1
unfolding turn
turn_byte e h r l =
    let n = number h in
    let at : get_or h (31 - e / 8) 0 ≡ n / 256 ^ (e / 8) % 256 =
    ap (λ (x : Bytes). get_or x (31 - e / 8) 0) (sym (be_number 32 h r.whole r.bytes))
    ∙ be_at 32 (31 - e / 8) n (omega arith)
    ∙ ap (λ (x : ℕ). n / 256 ^ x % 256) (omega arith) in
    let cut : 2 ^ e ≡ 256 ^ (e / 8) * 2 ^ (e % 8) = pow_cut e in
    ap (λ (x : ℕ). eqb (x % 2) 1) (ap (λ (x : ℕ). n / x) cut ∙ sym (div-div-eq-div-mul n (256 ^ (e / 8)) (2 ^ (e % 8))))
    ∙ ap (λ (x : ℕ). eqb x 1) (sym (low (n / 256 ^ (e / 8)) (e % 8) (omega arith)))
    ∙ ap (λ (x : ℕ). eqb (x / 2 ^ (e % 8) % 2) 1) (sym at)

-- ---- its words

number_from_lem : (bs : Bytes) (n : ℕ) → number_from n bs ≡ n * 256 ^ length bs + number bs
unfolding number_from
number_from_lem [] n = omega arith
number_from_lem (b ∷ bs) n =
    number_from_lem bs (n * 256 + b)
    ∙ (let k = 256 ^ length bs in
    let one : (n * 256 + b) * k ≡ n * (256 * k) + b * k = add-mul (n * 256) b k ∙ ap (λ (x : ℕ). x + b * k) (mul_assoc n 256 k) in
    let two : number (b ∷ bs) ≡ b * k + number bs = ap (λ (x : ℕ). number_from x bs) (zero-add b) ∙ number_from_lem bs b in
    let three : n * 256 ^ suc (length bs) ≡ n * (256 * k) = ap (λ (x : ℕ). n * x) (pow-succ' 256 (length bs)) in
    omega arith)

number_append : (a b : Bytes) → number (a ++ b) ≡ number a * 256 ^ length b + number b
unfolding number_from
number_append a b = joined a 0 ∙ number_from_lem b (number a)
  where
    joined : (x : Bytes) (n : ℕ) → number_from n (x ++ b) ≡ number_from (number_from n x) b
    joined [] n = refl
    joined (y ∷ x) n = joined x (n * 256 + y)

-- the word of 8 bytes at index at
abbrev pub word : Bytes → ℕ → ℕ
word s at = number (take 8 (drop at s))

-- the bytes at index at of which 8 * k are left, one word further on
further : (s : Bytes) (at m : ℕ) → at + (8 + m) ≤ length s → number (take (8 + m) (drop at s)) ≡ word s at * 256 ^ m + number (take m (drop (at + 8) s))
further s at m h =
    ap number (take-add 8 m (drop at s) ∙ ap (λ (x : Bytes). take 8 (drop at s) ++ take m x) (drop-drop 8 at s))
    ∙ number_append (take 8 (drop at s)) (take m (drop (at + 8) s))
    ∙ ap (λ (x : ℕ). word s at * 256 ^ x + number (take m (drop (at + 8) s))) (length_part m (at + 8) s (omega arith))

-- A ROW BY ITS WORDS
pub row_words : (s : Bytes) (at : ℕ) → at + 32 ≤ length s
    → number (take 32 (drop at s)) ≡ word s at * 256 ^ 24 + (word s (at + 8) * 256 ^ 16 + (word s (at + 16) * 256 ^ 8 + word s (at + 24)))
row_words s at h =
    let e : at + 8 + 8 ≡ at + 16 = omega arith in
    let f : at + 16 + 8 ≡ at + 24 = omega arith in
    further s at 24 h
    ∙ ap (λ (x : ℕ). word s at * 256 ^ 24 + x)
    (further s (at + 8) 16 (omega arith)
    ∙ ap (λ (i : ℕ). word s (at + 8) * 256 ^ 16 + number (take 16 (drop i s))) e
    ∙ ap (λ (x : ℕ). word s (at + 8) * 256 ^ 16 + x) (further s (at + 16) 8 (omega arith) ∙ ap (λ (i : ℕ). word s (at + 16) * 256 ^ 8 + word s i) f))

pub word_bound : (s : Bytes) (at : ℕ) → AreBytes s → at + 8 ≤ length s → word s at < 256 ^ 8
word_bound s at a h =
    let e : (0 + 1) * 256 ^ length (take 8 (drop at s)) ≡ 256 ^ 8 = ap (λ (n : ℕ). (0 + 1) * 256 ^ n) (length_part 8 at s h) in
    rw e at (number_bound (take 8 (drop at s)) 0 (part_bytes s at 8 a))
