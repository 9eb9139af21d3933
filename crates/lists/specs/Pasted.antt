-- Parts of a list of bytes in which k bytes of another were pasted: before them and behind them nothing moves.
use Rattle.std.specs.Prelude.{◌≡◌, ◌++◌, ℕ, ◌+◌, ◌-◌, ◌≤◌, ◌<◌, length, get_or, take, drop}
use Rattle.std.proofs.Common.{sym, ap, ◌∙◌, arith, length-drop, ext_get_or, get_or-take, get_or-drop, get_or-append-add, length-take-le}
use Rattle.std.proofs.Math.Decide.{dec_lt}
use Rattle.std.proofs.Math.ListN.{get_or-append}
use Rattle.std.proofs.Math.Seq.{paste, length_paste_head}
use Rattle.std.proofs.lemmas.List.Edits.{length-paste}
use Rattle.lists.specs.Bytes.{Bytes}

-- two parts with the same bytes are the same
pub part_same : (x y : Bytes) (a b m : ℕ) → a + m ≤ length x → b + m ≤ length y → ((i : ℕ) → i < m → get_or x (a + i) 0 ≡ get_or y (b + i) 0)
    → take m (drop a x) ≡ take m (drop b y)
part_same x y a b m hx hy e = ext_get_or 0 (take m (drop a x)) (take m (drop b y)) (lx ∙ sym ly) (λ i h. at i (omega (arith, lx)))
  where
    lx : length (take m (drop a x)) ≡ m
    lx = length-take-le m (drop a x) (omega (arith, length-drop a x))

    ly : length (take m (drop b y)) ≡ m
    ly = length-take-le m (drop b y) (omega (arith, length-drop b y))

    at : (i : ℕ) → i < m → get_or (take m (drop a x)) i 0 ≡ get_or (take m (drop b y)) i 0
    at i h = get_or-take m (drop a x) i 0 h ∙ get_or-drop a x i 0 ∙ e i h ∙ sym (get_or-take m (drop b y) i 0 h ∙ get_or-drop b y i 0)

module _ (s : Bytes) (at : ℕ) (r : Bytes) (k : ℕ) (fits : at + k ≤ length s) (enough : k ≤ length r) where
  front_length : length (take at s) ≡ at
  front_length = length-take-le at s (omega arith)

  head_length : length (take at s ++ take k r) ≡ at + k
  head_length = length_paste_head s at r k (omega arith) enough

  pub before : (i : ℕ) → i < at → get_or (paste s at r k) i 0 ≡ get_or s i 0
  before i h =
      get_or-append (take at s ++ take k r) (drop (at + k) s) 0 i (omega (arith, head_length))
      ∙ get_or-append (take at s) (take k r) 0 i (omega (arith, front_length))
      ∙ get_or-take at s i 0 h

  pub within : (i : ℕ) → i < k → get_or (paste s at r k) (at + i) 0 ≡ get_or r i 0
  within i h =
      get_or-append (take at s ++ take k r) (drop (at + k) s) 0 (at + i) (omega (arith, head_length))
      ∙ ap (λ (n : ℕ). get_or (take at s ++ take k r) (n + i) 0) (sym front_length)
      ∙ get_or-append-add (take at s) (take k r) i 0
      ∙ get_or-take k r i 0 h

  pub behind : (i : ℕ) → at + k ≤ i → get_or (paste s at r k) i 0 ≡ get_or s i 0
  behind i h =
      let e : i ≡ at + k + (i - (at + k)) = omega arith in
      ap (λ (n : ℕ). get_or (paste s at r k) n 0) e
      ∙ ap (λ (n : ℕ). get_or (paste s at r k) (n + (i - (at + k))) 0) (sym head_length)
      ∙ get_or-append-add (take at s ++ take k r) (drop (at + k) s) (i - (at + k)) 0
      ∙ get_or-drop (at + k) s (i - (at + k)) 0
      ∙ ap (λ (n : ℕ). get_or s n 0) (sym e)

  pub same_length : length (paste s at r k) ≡ length s
  same_length = length-paste s at r k fits enough

-- ---- pasted twice at one place

module _ (s : Bytes) (at : ℕ) (r q : Bytes) (k m : ℕ) (less : k ≤ m) (fits : at + m ≤ length s) (enough : k ≤ length r) (more : m ≤ length q) where
  abbrev once : Bytes
  once = paste s at r k

  once_length : length once ≡ length s
  once_length = same_length s at r k (omega arith) enough

  once_fits : at + m ≤ length once
  once_fits = omega (arith, once_length)

  over_byte : (i : ℕ) → Dec (i < at) → Dec (i < at + m) → get_or (paste once at q m) i 0 ≡ get_or (paste s at q m) i 0
  over_byte i (yes h) d =
      before once at q m once_fits more i h ∙ before s at r k (omega arith) enough i h ∙ sym (before s at q m fits more i h)
  over_byte i (no g) (yes h) =
      let e : i ≡ at + (i - at) = omega arith in
      ap (λ (x : ℕ). get_or (paste once at q m) x 0) e
      ∙ within once at q m once_fits more (i - at) (omega arith)
      ∙ sym (within s at q m fits more (i - at) (omega arith))
      ∙ ap (λ (x : ℕ). get_or (paste s at q m) x 0) (sym e)
  over_byte i (no g) (no h) =
      behind once at q m once_fits more i (omega arith)
      ∙ behind s at r k (omega arith) enough i (omega arith)
      ∙ sym (behind s at q m fits more i (omega arith))

  -- Bytes that are pasted over no more bytes at the same place are as if pasted over none.
  pub paste_over : paste once at q m ≡ paste s at q m
  paste_over =
      ext_get_or 0 (paste once at q m) (paste s at q m) (same_length once at q m once_fits more ∙ once_length ∙ sym (same_length s at q m fits more))
      (λ i h. over_byte i (dec_lt i at) (dec_lt i (at + m)))
