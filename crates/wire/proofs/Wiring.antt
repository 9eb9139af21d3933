-- Rows read from bytes and written to them, one after the other: one turn of each loop.
use mathlib.Core.Path.{◌≡◌, refl, sym, ap, ap₂, ◌∙◌}
use mathlib.Core.List.{List, [], ◌∷◌, ◌++◌}
use Prim.Native.Nat.{ℕ, zero, suc, ◌+◌, ◌*◌, ◌≤◌, ◌<◌, zero-le}
use native.Mathlib.Numerals.{add-one}
use native.Mathlib.Omega.{arith}
use lib.ListN.{length, get_or, take, drop, length-append}
use lib.Seq.{paste, take-suc, drop-drop}
use Rattle.lists.specs.Bytes.{Bytes, be}
use Rattle.lists.specs.Numbers.{be_length}
use Rattle.hash.specs.declared.Digest.{Digest}
use Rattle.rules.specs.Held.{Held}
use Rattle.held.specs.Holding.{bytes_of, rows_of}
use Rattle.held.proofs.Turns.{no_digest, row_of}
use Rattle.lists.specs.Pasting.{paste_exact, paste_more}
use Rattle.wire.specs.Wire.{rows_place, rows_bytes, held_bytes, flat, rows_in, wire_of, flat_more}

-- rows of which each is the one that stands at its place are those that stand in the bytes
pub all_read : (k : ℕ) (b : Bytes) (rows : List Digest) → length rows ≡ k → ((i : ℕ) → i < k → bytes_of (get_or rows i no_digest) ≡ take 32 (drop (32 * i) b))
    → rows_of rows ≡ rows_in k b
unfolding rows_in
all_read zero b [] e each = refl
all_read zero b (d ∷ rows) e each = absurd (omega arith)
all_read (suc k) b [] e each = absurd (omega arith)
all_read (suc k) b (d ∷ rows) e each =
    ap₂ {A = Bytes} {B = List Bytes} {C = List Bytes} (λ x xs. x ∷ xs) (each 0 (omega arith))
    (all_read k (drop 32 b) rows (omega arith)
    (λ i h. let n : 32 * suc i ≡ 32 + 32 * i = omega arith in each (suc i) (omega arith) ∙ ap (λ (m : ℕ). take 32 (drop m b)) n ∙ ap (take 32) (sym (drop-drop (32 * i) 32 b))))

-- the first l + 1 rows are the first l, and row l behind them
rows_next : (rows : List Digest) (l : ℕ) → l < length (rows_of rows) → flat (take (l + 1) (rows_of rows)) ≡ flat (take l (rows_of rows)) ++ bytes_of (get_or rows l no_digest)
rows_next rows l h =
    ap (λ (n : ℕ). flat (take n (rows_of rows))) (add-one l)
    ∙ ap flat (take-suc (rows_of rows) l [] h)
    ∙ flat_more (take l (rows_of rows)) (get_or (rows_of rows) l [])
    ∙ ap (λ (x : Bytes). flat (take l (rows_of rows)) ++ x) (row_of rows l)

module _ (rows : List Digest) (l : ℕ) (h : l < length (rows_of rows)) (r : Bytes) (d : r ≡ bytes_of (get_or rows l no_digest)) (w : length r ≡ 32) where
  pub long_turn : length (flat (take l (rows_of rows))) ≡ 32 * l → length (flat (take (l + 1) (rows_of rows))) ≡ 32 * (l + 1)
  long_turn e =
      ap length (rows_next rows l h ∙ ap (λ (x : Bytes). flat (take l (rows_of rows)) ++ x) (sym d))
      ∙ length-append (flat (take l (rows_of rows))) r
      ∙ omega arith

  -- row l is written behind those before it
  pub write_turn : (out o : Bytes) (at : ℕ) → length (flat (take l (rows_of rows))) ≡ 32 * l → at ≤ length out
      → o ≡ paste out at (flat (take l (rows_of rows))) (32 * l) → paste o (at + 32 * l) r 32 ≡ paste out at (flat (take (l + 1) (rows_of rows))) (32 * (l + 1))
  write_turn out o at e room eo =
      ap (λ (x : Bytes). paste x (at + 32 * l) r 32) eo
      ∙ paste_more out (flat (take l (rows_of rows))) r at (32 * l) 32 e w room
      ∙ ap₂ {A = Bytes} {B = ℕ} {C = Bytes} (λ x n. paste out at x n)
      (ap (λ (x : Bytes). flat (take l (rows_of rows)) ++ x) d ∙ sym (rows_next rows l h)) (let q : 32 * l + 32 ≡ 32 * (l + 1) = omega arith in q)

-- ---- the whole state

four_parts : (out L C D R : Bytes) → length out ≡ held_bytes → length L ≡ 8 → length C ≡ 8 → length D ≡ 32 → length R ≡ rows_bytes
    → paste (paste (paste (paste out 0 L 8) 8 C 8) 16 D 32) rows_place R rows_bytes ≡ L ++ C ++ D ++ R
four_parts out L C D R room l c d r =
    ap (λ (x : Bytes). paste (paste x 16 D 32) rows_place R rows_bytes) (paste_more out L C 0 8 8 l c zero-le)
    ∙ ap (λ (x : Bytes). paste x rows_place R rows_bytes) (paste_more out (L ++ C) D 0 16 32 two d zero-le)
    ∙ paste_more out (L ++ C ++ D) R 0 rows_place rows_bytes three r zero-le
    ∙ paste_exact out (L ++ C ++ D ++ R) held_bytes room (length-append (L ++ C ++ D) R ∙ omega (arith, three))
  where
    two : length (L ++ C) ≡ 16
    two = length-append L C ∙ omega arith

    three : length (L ++ C ++ D) ≡ 48
    three = length-append (L ++ C) D ∙ omega (arith, two)

-- the four writes of a state, each over what the one before left
pub written : (h : Held) (out o1 o2 o3 o4 L C : Bytes) → length out ≡ held_bytes → L ≡ be 8 h.log → C ≡ be 8 h.count → length h.digest ≡ 32 → length (flat h.rows) ≡ rows_bytes
    → o1 ≡ paste out 0 L 8 → o2 ≡ paste o1 8 C 8 → o3 ≡ paste o2 16 h.digest 32 → o4 ≡ paste o3 rows_place (flat h.rows) rows_bytes → o4 ≡ wire_of h
unfolding wire_of
written h out o1 o2 o3 o4 L C room el ec d r e1 e2 e3 e4 =
    e4
    ∙ ap (λ (x : Bytes). paste x rows_place (flat h.rows) rows_bytes)
    (e3 ∙ ap (λ (x : Bytes). paste x 16 h.digest 32) (e2 ∙ ap₂ {A = Bytes} {B = Bytes} {C = Bytes} (λ x y. paste x 8 y 8) (e1 ∙ ap (λ (x : Bytes). paste out 0 x 8) el) ec))
    ∙ four_parts out (be 8 h.log) (be 8 h.count) h.digest (flat h.rows) room (be_length 8 h.log) (be_length 8 h.count) d r
