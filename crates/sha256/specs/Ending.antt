-- The last hash value of a message, from the front of one of its blocks on.
use Rattle.std.specs.Prelude.{◌≡◌, [], ◌++◌, ℕ, ◌+◌, ◌-◌, ◌*◌, ◌/◌, ◌%◌, ◌≤◌, length, take, drop}
use Rattle.std.proofs.Common.{sym, ap, ◌∙◌, append_assoc, append-nil, arith, length-append, take-append-drop, length-take-le}
use Rattle.std.proofs.lemmas.List.{length-replicate}
use Rattle.lists.specs.Bytes.{Bytes}
use Rattle.lists.specs.Laws.{sets_end}
use Rattle.fips.specs.Sha256.{H0, padding, padded, compress, chained, bytes_of, sha256}
use Rattle.sha256.specs.Stream.{emptied, absorbed}
use Rattle.sha256.specs.Runs.{zeros, absorbed_append, fills, blocks, run, over}
use Rattle.fips.specs.declared.Words.{Words}
use Rattle.sha256.specs.declared.HashState.{HashState}

-- m is what is left of a message of n bytes, from the front of a block on, and w the hash value before it
unfoldable pub ended : Words → Bytes → ℕ → Words
ended w m n = chained w (length (m ++ padding n) / 64) (m ++ padding n)

-- where that is the whole message, its bytes are the digest
pub ended_all : (w r : Words) (m d : Bytes) (n : ℕ) → w ≡ H0 → n ≡ length m → r ≡ ended w m n → d ≡ bytes_of r → d ≡ sha256 m
unfolding ended sha256 padded
ended_all w r m d n ew en er ed = ed ∙ ap bytes_of er ∙ rw (ew, en)

-- by the rule of one byte at a time it is the same
ended_is : (w : Words) (t : ℕ) (m : Bytes) (n : ℕ) → (absorbed (emptied w t) (m ++ padding n)).words ≡ ended w m n
unfolding ended
ended_is w t m n = ap (λ (s : HashState). s.words) (run (m ++ padding n) w t)

-- how many bytes were taken before does not matter
total_free : (w : Words) (t u : ℕ) (m : Bytes) → (absorbed (emptied w t) m).words ≡ (absorbed (emptied w u) m).words
total_free w t u m = ap (λ (v : HashState). v.words) (run m w t) ∙ sym (ap (λ (v : HashState). v.words) (run m w u))

-- a block, from its front on
block_taken : (w : Words) (x : Bytes) → length x ≡ 64 → absorbed (emptied w 0) x ≡ emptied (compress w x) (0 + length x)
block_taken w x l =
    fills x (emptied w 0) (omega arith) (omega arith) ∙ ap (λ (b : Bytes). emptied (compress w b) (0 + length x)) (sets_end zeros x 0 (omega arith))

-- bytes that are absorbed first, and what is left then
module _ (w : Words) (a b : Bytes) (n : ℕ) where
  ended_parts : (v : Words) (t : ℕ) → absorbed (emptied w 0) a ≡ emptied v t → ended w (a ++ b) n ≡ ended v b n
  ended_parts v t e =
      sym (ended_is w 0 (a ++ b) n)
      ∙ ap (λ (x : Bytes). (absorbed (emptied w 0) x).words) (append_assoc a b (padding n))
      ∙ ap (λ (s : HashState). s.words) (absorbed_append (emptied w 0) a (b ++ padding n))
      ∙ ap (λ (s : HashState). (absorbed s (b ++ padding n)).words) e
      ∙ ended_is v t b n

  -- a block, and what is left
  pub ended_block : length a ≡ 64 → ended w (a ++ b) n ≡ ended (compress w a) b n
  ended_block l = ended_parts (compress w a) (0 + length a) (block_taken w a l)

-- the whole blocks of a, and what is left of it before b
pub ended_after : (w : Words) (a b : Bytes) (n : ℕ)
    → ended w (a ++ b) n ≡ ended (chained w (length a / 64) a) (drop (64 * (length a / 64)) a ++ b) n
ended_after w a b n =
    let k : ℕ = length a / 64 in
    ap (λ (x : Bytes). ended w (x ++ b) n) (sym (take-append-drop (64 * k) a))
    ∙ ap (λ (x : Bytes). ended w x n) (append_assoc (take (64 * k) a) (drop (64 * k) a) b)
    ∙ ended_parts w (take (64 * k) a) (drop (64 * k) a ++ b) n (chained w k a) (0 + 64 * k) (blocks k a w 0 (omega arith))

pub ended_whole : (w : Words) (m : Bytes) (n : ℕ) → ended w m n ≡ ended (chained w (length m / 64) m) (drop (64 * (length m / 64)) m) n
ended_whole w m n =
    ap (λ (x : Bytes). ended w x n) (sym (append-nil m))
    ∙ ended_after w m [] n
    ∙ ap (λ (x : Bytes). ended (chained w (length m / 64) m) x n) (append-nil (drop (64 * (length m / 64)) m))

-- the padding fills the block under way
padding_fills : (n : ℕ) → 64 - n % 64 ≤ length (padding n)
unfolding padding
padding_fills n = simp (length-append, length-replicate) (omega arith)

-- a state that holds part of a block
pub ended_held : (s : HashState) (n : ℕ) → s.fill ≡ n % 64 → length s.bytes ≡ 64
    → (absorbed s (padding n)).words ≡ ended s.words (take s.fill s.bytes) n
ended_held s n e l =
    let f : ℕ = s.fill in
    let p : Bytes = padding n in
    let room : ℕ = 64 - f in
    let h = padding_fills n in
    let lf : length (take f s.bytes) ≡ f = length-take-le f s.bytes (omega arith) in
    let lp : length (take room p) ≡ room = length-take-le room p (omega arith) in
    let x : Bytes = take f s.bytes ++ take room p in
    let q : Bytes = drop room p in
    let lx : length x ≡ 64 = length-append (take f s.bytes) (take room p) ∙ omega arith in
    let whole : take f s.bytes ++ p ≡ x ++ q =
    ap (λ (b : Bytes). take f s.bytes ++ b) (sym (take-append-drop room p)) ∙ sym (append_assoc (take f s.bytes) (take room p) q) in
    ap (λ (u : HashState). u.words) (over p s room (omega arith) (omega arith) (omega arith))
    ∙ ap (λ (b : Bytes). (absorbed (emptied (compress s.words b) (s.total + room)) q).words) (sets_end s.bytes (take room p) f (omega arith))
    ∙ total_free (compress s.words x) (s.total + room) (0 + length x) q
    ∙ sym (ap (λ (u : HashState). (absorbed u q).words) (block_taken s.words x lx))
    ∙ sym (ap (λ (u : HashState). u.words) (absorbed_append (emptied s.words 0) x q))
    ∙ ap (λ (b : Bytes). (absorbed (emptied s.words 0) b).words) (sym whole)
    ∙ ended_is s.words 0 (take f s.bytes) n
