-- The fewest digits that hold a number are those that the line has; how long a line can be.
use mathlib.Core.Path.{◌≡◌}
use Prim.Native.Nat.{ℕ, zero, suc, ◌+◌, ◌-◌, ◌*◌, ◌/◌, ◌%◌, ◌^◌, ◌≤◌, ◌<◌, zero-le}
use native.Mathlib.Nat.{pow-suc, one-le-pow, pow-le-pow_right}
use native.Mathlib.Decide.{dec_le}
use native.Mathlib.Omega.{arith}
use borrow.Author.Tests.{lt-ltb, le-ltb}
use Rattle.io.specs.Digits.{last_digits, hex_digit_ascii, IsDigitCount}
use Rattle.lists.specs.Bytes.{Bytes}
use Rattle.rules.specs.Numbers.{Version}
use Rattle.copies.specs.Comparing.{equal, first_shorter, second_shorter, differ}
use Rattle.copies.specs.Calls.{Outcome, found, refused, compare_call}
use Rattle.copies.specs.Line.{decimal, decimal_in, words, unread, file_most, text_of}
use mathlib.Core.Bool.{Bool, true, false, cond, ◌&&◌}
use mathlib.Core.List.{[], ◌∷◌, ◌++◌}
use lib.Dec.{ltb, leb}
use lib.ListN.{length, length-append}

-- a decimal digit is one of `0` to `9`
glyph_is : (d : ℕ) → d < 10 → hex_digit_ascii d ≡ 48 + d
glyph_is d h = rw (lt-ltb d 10 h)

-- with room for no fewer than there are
pub fewest : (j k n : ℕ) → IsDigitCount 10 1 n k → k ≤ j → last_digits 10 k n ≡ decimal_in j n
unfolding decimal_in
fewest j zero n f h = absurd (omega arith)
fewest zero (suc k) n f h = absurd (omega arith)
fewest (suc j) (suc zero) n f h =
    let small : n < 10 = omega arith in
    let e : n % 10 ≡ n = omega arith in
    rw (e, glyph_is n small, lt-ltb n 10 small)
fewest (suc j) (suc (suc k)) n f h =
    let high : 10 ^ suc k ≤ n = let e : suc (suc k) - 1 ≡ suc k = omega arith in rw e at (f.2 (omega arith)) in
    let above : n < 10 ^ suc k * 10 = rw (← pow-suc 10 (suc k)) f.1 in
    let step : 10 ^ suc k ≡ 10 ^ k * 10 = pow-suc 10 k in
    let big : 10 ≤ n = omega (arith, one-le-pow k 10 (omega arith)) in
    let e : suc k - 1 ≡ k = omega arith in
    let less : IsDigitCount 10 1 (n / 10) (suc k) = (omega arith, omega arith, λ g. rw e (omega arith)) in
    rw (le-ltb n 10 big, glyph_is (n % 10) (omega arith), fewest j (suc k) (n / 10) less (omega arith))

-- a number of 64 bits has at most 20
pub few : (n k : ℕ) → n < 2 ^ 64 → IsDigitCount 10 1 n k → k ≤ 20
few n k h f = go (dec_le k 20)
  where
    go : Dec (k ≤ 20) → k ≤ 20
    go (yes g) = g
    go (no g) =
        let high = f.2 (omega arith) in
        let long : 10 ^ 20 ≤ 10 ^ (k - 1) = pow-le-pow_right {n = 10} (omega arith) {i = 20} {j = k - 1} (omega arith) in
        absurd (omega arith)

-- no number has more than there is room for
digits_short : (j n : ℕ) → length (decimal_in j n) ≤ j
unfolding decimal_in
digits_short zero n = zero-le
digits_short (suc j) n = go (ltb n 10) (digits_short j (n / 10))
  where
    go : (b : Bool) → length (decimal_in j (n / 10)) ≤ j → length (cond b ((48 + n) ∷ []) (decimal_in j (n / 10) ++ ((48 + n % 10) ∷ []))) ≤ suc j
    go true rest = omega arith
    go false rest = omega (arith, length-append (decimal_in j (n / 10)) ((48 + n % 10) ∷ []))

pub decimal_short : (n : ℕ) → length (decimal n) ≤ 20
decimal_short n = digits_short 20 n

-- no line is longer than the output but for its line feed
pub words_short : (o : Outcome) → length (words o) ≤ 48
unfolding words
words_short (found equal) = omega arith
words_short (found first_shorter) = omega arith
words_short (found second_shorter) = omega arith
words_short (found (differ n b)) = omega (arith, length-append (decimal n) (32 ∷ decimal b), decimal_short n, decimal_short b)
words_short (refused n) = omega (arith, decimal_short n)

pub text_short : (v : Version) (read : Bool) (s t : Bytes) → length (text_of v read s t) ≤ 48
unfolding text_of
text_short v read s t = go (read && (leb (length s) file_most && leb (length t) file_most))
  where
    go : (b : Bool) → length (cond b (words (compare_call v s t)) unread) ≤ 48
    go true = words_short (compare_call v s t)
    go false = omega arith
