-- What a run of bytes does to a state: it stays within the block under way, fills it, or goes on over whole blocks.
use Rattle.std.specs.Prelude.{◌≡◌, ℕ, zero, suc, ◌+◌, ◌-◌, ◌*◌, ◌/◌, ◌%◌, ◌≤◌, ◌<◌, length, take, drop, set, replicate}
use Rattle.std.proofs.Common.{sym, ap, ◌∙◌, add-zero, add-one, arith, eq-eqb, ne_eqb, length-drop, take-append-drop, take-add, length-take-le}
use mathlib.Core.List.{[], ◌∷◌, ◌++◌, foldl, foldl-append}
use Rattle.std.proofs.lemmas.List.Edits.{sets}
use Rattle.lists.specs.Bytes.{Bytes}
use Rattle.lists.specs.Laws.{length_part, sets_end}
use Rattle.fips.specs.Sha256.{block, compress, chained}
use Rattle.sha256.specs.Stream.{emptied, absorb, absorbed}
use Rattle.fips.specs.declared.Words.{Words}
use Rattle.sha256.specs.declared.HashState.{HashState}

-- taking is a fold: two runs, one after the other, are one run
pub absorbed_append : (s : HashState) (a b : Bytes) → absorbed s (a ++ b) ≡ absorbed (absorbed s a) b
unfolding absorbed
absorbed_append s a b = foldl-append absorb s a b

abbrev pub state_of : Words → Bytes → ℕ → ℕ → HashState
state_of w b f t = record { words = w; bytes = b; fill = f; total = t }

abbrev pub zeros : Bytes
zeros = replicate 64 0

absorb_within : (s : HashState) (x : ℕ) → s.fill + 1 < 64 → absorb s x ≡ state_of s.words (set s.bytes s.fill x) (s.fill + 1) (s.total + 1)
unfolding absorb
absorb_within s x h = rw (ne_eqb (s.fill + 1) 64 (λ e. omega arith))

absorb_last : (s : HashState) (x : ℕ) → s.fill + 1 ≡ 64 → absorb s x ≡ emptied (compress s.words (set s.bytes s.fill x)) (s.total + 1)
unfolding absorb
absorb_last s x e = rw (eq-eqb (s.fill + 1) 64 e)

-- bytes that leave the block unfilled are stored, and that is all
pub within : (m : Bytes) (s : HashState) → s.fill + length m < 64
    → absorbed s m ≡ state_of s.words (sets s.bytes s.fill m) (s.fill + length m) (s.total + length m)
unfolding absorbed
within [] s h = rw (add-zero s.fill, add-zero s.total)
within (x ∷ m) s h =
    let f : s.fill + 1 + length m ≡ s.fill + suc (length m) = omega arith in
    let t : s.total + 1 + length m ≡ s.total + suc (length m) = omega arith in
    ap (λ (u : HashState). foldl absorb u m) (absorb_within s x (omega arith))
    ∙ within m (state_of s.words (set s.bytes s.fill x) (s.fill + 1) (s.total + 1)) (omega arith)
    ∙ cc (add-one s.fill)

-- bytes that fill the block are stored, and the block is compressed
pub fills : (m : Bytes) (s : HashState) → 0 < length m → s.fill + length m ≡ 64
    → absorbed s m ≡ emptied (compress s.words (sets s.bytes s.fill m)) (s.total + length m)
unfolding absorbed
fills [] s p h = absurd (omega arith)
fills (x ∷ []) s p h = absorb_last s x h
fills (x ∷ y ∷ m) s p h =
    let t : s.total + 1 + length (y ∷ m) ≡ s.total + suc (length (y ∷ m)) = omega arith in
    ap (λ (u : HashState). foldl absorb u (y ∷ m)) (absorb_within s x (omega arith))
    ∙ fills (y ∷ m) (state_of s.words (set s.bytes s.fill x) (s.fill + 1) (s.total + 1)) (omega arith) (omega arith)
    ∙ cc (add-one s.fill)

-- whole blocks, from the front of a block
pub blocks : (k : ℕ) (m : Bytes) (w : Words) (t : ℕ) → 64 * k ≤ length m
    → absorbed (emptied w t) (take (64 * k) m) ≡ emptied (chained w k m) (t + 64 * k)
unfolding absorbed chained
blocks zero m w t h = rw add-zero
blocks (suc k) m w t h =
    let e : 64 * suc k ≡ 64 * k + 64 = omega arith in
    let l : length (block k m) ≡ 64 = length_part 64 (64 * k) m (omega arith) in
    let n : t + 64 * k + length (block k m) ≡ t + 64 * suc k = omega arith in
    ap (λ (i : ℕ). absorbed (emptied w t) (take i m)) e
    ∙ ap (absorbed (emptied w t)) (take-add (64 * k) 64 m)
    ∙ absorbed_append (emptied w t) (take (64 * k) m) (block k m)
    ∙ ap (λ (s : HashState). absorbed s (block k m)) (blocks k m w t (omega arith))
    ∙ fills (block k m) (emptied (chained w k m) (t + 64 * k)) (omega arith) (omega arith)
    ∙ cc (sets_end zeros (block k m) 0 (omega arith))

-- any bytes, from the front of a block
pub run : (m : Bytes) (w : Words) (t : ℕ)
    → absorbed (emptied w t) m
    ≡ state_of (chained w (length m / 64) m) (sets zeros 0 (drop (64 * (length m / 64)) m)) (length m % 64) (t + length m)
run m w t =
    let k : ℕ = length m / 64 in
    let d : length (drop (64 * k) m) ≡ length m - 64 * k = length-drop (64 * k) m in
    let f : 0 + length (drop (64 * k) m) ≡ length m % 64 = omega arith in
    let n : t + 64 * k + length (drop (64 * k) m) ≡ t + length m = omega arith in
    ap (absorbed (emptied w t)) (sym (take-append-drop (64 * k) m))
    ∙ absorbed_append (emptied w t) (take (64 * k) m) (drop (64 * k) m)
    ∙ ap (λ (s : HashState). absorbed s (drop (64 * k) m)) (blocks k m w t (omega arith))
    ∙ within (drop (64 * k) m) (emptied (chained w k m) (t + 64 * k)) (omega arith)
    ∙ cc

-- bytes that fill the block and go on
pub over : (m : Bytes) (s : HashState) (room : ℕ) → s.fill < 64 → s.fill + room ≡ 64 → room ≤ length m
    → absorbed s m ≡ absorbed (emptied (compress s.words (sets s.bytes s.fill (take room m))) (s.total + room)) (drop room m)
over m s room f e h =
    let l : length (take room m) ≡ room = length-take-le room m h in
    ap (absorbed s) (sym (take-append-drop room m))
    ∙ absorbed_append s (take room m) (drop room m)
    ∙ ap (λ (u : HashState). absorbed u (drop room m)) (fills (take room m) s (omega arith) (omega arith) ∙ cc)
