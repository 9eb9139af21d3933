-- Steps of the functions that feed bytes to a state, on plain numbers and lists.
use mathlib.Core.Path.{◌≡◌, refl, sym, ap, ap₂, ◌∙◌}
use mathlib.Core.List.{◌++◌, append_assoc}
use Prim.Native.Nat.{ℕ, ◌+◌, ◌-◌, ◌*◌, ◌/◌, ◌%◌, ◌≤◌, ◌<◌, zero-le}
use native.Mathlib.Nat.{zero-add}
use native.Mathlib.Numerals.{add-one}
use native.Mathlib.Omega.{arith}
use lib.ListN.{length, take, drop, length-append, length-drop, take-append-drop}
use Rattle.std.proofs.Common.{drop-drop}
use lib.Seq.{sets, paste, take_all, length-take-le, take_at, drop_at}
use Rattle.lists.specs.Bytes.{Bytes}
use Rattle.lists.specs.Laws.{sets_end}
use Rattle.lists.specs.Pasting.{paste_more, paste_exact, take_two}
use Rattle.fips.specs.Sha256.{compress, chained}
use Rattle.sha256.specs.Stream.{emptied, absorbed}
use Rattle.sha256.specs.Runs.{state_of, zeros, within, run, over}
use Rattle.sha256.specs.Ending.{ended, ended_block, ended_after, ended_whole}
use Rattle.fips.specs.declared.Words.{Words}
use Rattle.sha256.specs.declared.HashState.{HashState}

-- k blocks are behind, and the next one is at the front of what is left; and the end, where no whole block is left
module _ (s v : Words) (m rest : Bytes) (k : ℕ) (at : rest ≡ drop (64 * k) m) (e : v ≡ chained s k m) where
  pub chained_further : (r : Words) (b next : Bytes) → rest ≡ b ++ next → length b ≡ 64 → r ≡ compress v b
      → (64 * (k + 1) ≤ length m) × (next ≡ drop (64 * (k + 1)) m) × (r ≡ chained s (k + 1) m)
  unfolding chained
  chained_further r b next p l f =
      let further : 64 * (k + 1) ≡ 64 * k + 64 = omega arith in
      let here : take 64 (drop (64 * k) m) ≡ b = ap (take 64) (sym at ∙ p) ∙ take_at b next 64 l in (
        omega (arith, ap length p, length-append b next, ap length at, length-drop (64 * k) m),
        sym (drop_at b next 64 l) ∙ ap (drop 64) (sym p ∙ at) ∙ drop-drop 64 (64 * k) m ∙ ap (λ (i : ℕ). drop i m) (sym further),
        rw (add-one, here, ← e) f,
      )

  pub chained_whole : length rest < 64 → 64 * k ≤ length m → v ≡ chained s (length m / 64) m
  chained_whole l h =
      let n : k ≡ length m / 64 = omega (arith, ap length at, length-drop (64 * k) m) in
      e ∙ ap (λ (i : ℕ). chained s i m) n

-- where the state holds nothing, the bytes are the block
pub empty_filled : (s : HashState) (m : Bytes) (r : Words) → s.fill ≡ 0 → s.fill + length m ≡ length s.bytes
    → r ≡ compress s.words m → r ≡ compress s.words (sets s.bytes s.fill m)
empty_filled s m r z l e = rw (sets_end s.bytes m s.fill l, z) e

-- the bytes leave the block under way unfilled
pub fed_within : (s : HashState) (m b : Bytes) → s.fill + length m < 64 → b ≡ sets s.bytes s.fill m
    → state_of s.words b (s.fill + length m) (s.total + length m) ≡ absorbed s m
fed_within s m b h e = rw e (sym (within m s h))

rest_part : (m : Bytes) (at : ℕ) → at ≤ length m → take (length m - at) (drop at m) ≡ drop at m
rest_part m at h = let l = length-drop at m in take_all (length m - at) (drop at m) (omega arith)

-- what is left of m behind its whole blocks
abbrev pub rest_of : Bytes → Bytes
rest_of m = take (length m - (length m - length m % 64)) (drop (length m - length m % 64) m)

pub rest_length : (m : Bytes) → length (rest_of m) ≡ length m % 64
rest_length m = ap length (rest_part m (length m - length m % 64) (omega arith)) ∙ length-drop (length m - length m % 64) m ∙ omega arith

-- from the front of a block: v after the whole blocks, and b what is left
pub ran : (w v : Words) (t : ℕ) (m b : Bytes) → v ≡ chained w (length m / 64) m
    → b ≡ sets zeros 0 (rest_of m)
    → state_of v b (length m % 64) (t + length m) ≡ absorbed (emptied w t) m
ran w v t m b ev eb =
    let at : length m - length m % 64 ≡ 64 * (length m / 64) = omega arith in
    rw (ev, eb, rest_part m (length m - length m % 64) (omega arith), at) (sym (run m w t))

-- the bytes fill the block under way and go on: w after that block, r after them all
pub fed_over : (s r : HashState) (m : Bytes) (w : Words) → s.fill < 64 → 64 - s.fill ≤ length m
    → w ≡ compress s.words (sets s.bytes s.fill (take (64 - s.fill) m))
    → r ≡ absorbed (emptied w (s.total + (64 - s.fill))) (take (length m - (64 - s.fill)) (drop (64 - s.fill) m))
    → r ≡ absorbed s m
fed_over s r m w f h ew er =
    er ∙ rw (rest_part m (64 - s.fill) h, ew) (sym (over m s (64 - s.fill) f (omega arith) h))

-- from the front of a block: v after the whole blocks of a, and r after what is left of it, and b
pub ended_rest : (w v r : Words) (a b : Bytes) (n : ℕ) → v ≡ chained w (length a / 64) a
    → r ≡ ended v (rest_of a ++ b) n
    → r ≡ ended w (a ++ b) n
ended_rest w v r a b n ev er =
    let at : length a - length a % 64 ≡ 64 * (length a / 64) = omega arith in
    er ∙ rw (ev, rest_part a (length a - length a % 64) (omega arith), at) (sym (ended_after w a b n))

pub ended_run : (w v r : Words) (m : Bytes) (n : ℕ) → v ≡ chained w (length m / 64) m
    → r ≡ ended v (rest_of m) n
    → r ≡ ended w m n
ended_run w v r m n ev er =
    let at : length m - length m % 64 ≡ 64 * (length m / 64) = omega arith in
    er ∙ rw (ev, rest_part m (length m - length m % 64) (omega arith), at) (sym (ended_whole w m n))

-- two strings in one block: x with the first, y with both
module _ (w r : Words) (rest m x y : Bytes) (n : ℕ) (ex : x ≡ paste zeros 0 rest (length rest)) where
  -- they leave it unfilled
  pub ended_within : length rest + length m ≤ 64 → y ≡ paste x (length rest) m (length m)
      → r ≡ ended w (take (length rest + length m) y) n → r ≡ ended w (rest ++ m) n
  ended_within h ey er =
      er
      ∙ ap (λ (b : Bytes). ended w b n)
      (ap (take (length rest + length m)) (ey ∙ ap (λ (b : Bytes). paste b (length rest) m (length m)) ex)
      ∙ take_two zeros rest m (length rest) (length m) refl refl h)

  -- they fill it and go on: v after the block
  pub ended_over : (v : Words) → length rest < 64 → 64 - length rest ≤ length m
      → y ≡ paste x (length rest) (take (64 - length rest) m) (64 - length rest)
      → v ≡ compress w y → r ≡ ended v (take (length m - (64 - length rest)) (drop (64 - length rest) m)) n → r ≡ ended w (rest ++ m) n
  ended_over v g h ey ev er =
      let f : ℕ = length rest in
      let room : ℕ = 64 - f in
      let lt : length (take room m) ≡ room = length-take-le room m h in
      let la : length (rest ++ take room m) ≡ 64 = length-append rest (take room m) ∙ omega arith in
      let sum : f + room ≡ 64 = omega arith in
      let block : y ≡ rest ++ take room m =
      ey
      ∙ ap (λ (b : Bytes). paste b f (take room m) room) ex
      ∙ ap (λ (i : ℕ). paste (paste zeros 0 rest f) i (take room m) room) (sym (zero-add f))
      ∙ paste_more zeros rest (take room m) 0 f room refl lt zero-le
      ∙ ap (paste zeros 0 (rest ++ take room m)) sum
      ∙ paste_exact zeros (rest ++ take room m) 64 refl la in
      let whole : (rest ++ take room m) ++ drop room m ≡ rest ++ m =
      append_assoc rest (take room m) (drop room m) ∙ ap (λ (b : Bytes). rest ++ b) (take-append-drop room m) in
      er
      ∙ ap₂ (λ (u : Words) (b : Bytes). ended u b n) (ev ∙ ap (compress w) block) (rest_part m room h)
      ∙ sym (ended_block w (rest ++ take room m) (drop room m) n la)
      ∙ ap (λ (b : Bytes). ended w b n) whole
