-- The bytes of a held state: log number and count (8 bytes each, big-endian), digest, rows. And that nothing is lost on the way there and back.
use Rattle.std.specs.Prelude.{◌≡◌, refl, List, [], ◌∷◌, ◌++◌, ℕ, zero, suc, ◌+◌, ◌*◌, ◌<◌, length, get_or, take, drop}
use Rattle.std.proofs.Common.{sym, ap, ap₂, ◌∙◌, append_assoc, append-nil, arith, length-drop, take-append-drop, take_at, drop_at, take-add, drop-drop}
use Rattle.lists.specs.Bytes.{Bytes, AreBytes, be, number}
use Rattle.lists.specs.Laws.{length_part}
use Rattle.lists.specs.Numbers.{number_be, be_number, part_bytes}
use Rattle.rules.specs.Numbers.{v1}
use Rattle.rules.specs.Held.{Held, Sized}

-- where the rows begin, their bytes, and all
abbrev pub rows_place : ℕ
rows_place = 48

abbrev pub rows_bytes : ℕ
rows_bytes = 32 * v1.levels

abbrev pub held_bytes : ℕ
held_bytes = rows_place + rows_bytes

-- the bytes of rows, one after the other
unfoldable pub flat : List Bytes → Bytes
flat [] = []
flat (r ∷ rs) = r ++ flat rs

-- k rows of 32 bytes
unfoldable pub rows_in : ℕ → Bytes → List Bytes
rows_in zero b = []
rows_in (suc k) b = take 32 b ∷ rows_in k (drop 32 b)

unfoldable pub wire_of : Held → Bytes
wire_of h = be 8 h.log ++ be 8 h.count ++ h.digest ++ flat h.rows

unfoldable pub held_in : Bytes → Held
held_in b = record { log = number (take 8 b); count = number (take 8 (drop 8 b)); digest = take 32 (drop 16 b); rows = rows_in v1.levels (drop rows_place b) }

-- ---- rows, one more at the end

pub flat_more : (rs : List Bytes) (r : Bytes) → flat (rs ++ (r ∷ [])) ≡ flat rs ++ r
unfolding flat
flat_more [] r = append-nil r
flat_more (q ∷ rs) r = ap (λ (b : Bytes). q ++ b) (flat_more rs r) ∙ sym (append_assoc q (flat rs) r)

pub rows_more : (k : ℕ) (b : Bytes) → rows_in (suc k) b ≡ rows_in k b ++ (take 32 (drop (32 * k) b) ∷ [])
unfolding rows_in
rows_more zero b = refl
rows_more (suc k) b =
    let e : 32 + 32 * k ≡ 32 * suc k = omega arith in
    ap (λ (l : List Bytes). take 32 b ∷ l)
    (rows_more k (drop 32 b) ∙ ap (λ (x : Bytes). rows_in k (drop 32 b) ++ (take 32 x ∷ [])) (drop-drop (32 * k) 32 b ∙ ap (λ (n : ℕ). drop n b) e))

-- ---- from bytes to bytes

flat_rows : (k : ℕ) (b : Bytes) → length b ≡ 32 * k → flat (rows_in k b) ≡ b
unfolding flat rows_in
flat_rows zero [] e = refl
flat_rows zero (x ∷ b) e = absurd (omega arith)
flat_rows (suc k) b e = ap (λ (x : Bytes). take 32 b ++ x) (flat_rows k (drop 32 b) (length-drop 32 b ∙ omega arith)) ∙ take-append-drop 32 b

-- THE BYTES OF THE STATE THAT STANDS IN BYTES ARE THESE BYTES
pub wire_in : (b : Bytes) → length b ≡ held_bytes → AreBytes b → wire_of (held_in b) ≡ b
unfolding wire_of held_in
wire_in b n a =
    ap₂ {A = Bytes} {B = Bytes} {C = Bytes} (λ x y. x ++ y ++ take 32 (drop 16 b) ++ flat (rows_in v1.levels (drop rows_place b)))
    (be_number 8 (take 8 b) (length_part 8 0 b (omega arith)) (part_bytes b 0 8 a)) (be_number 8 (take 8 (drop 8 b)) (length_part 8 8 b (omega arith)) (part_bytes b 8 8 a))
    ∙ ap (λ (x : Bytes). take 8 b ++ take 8 (drop 8 b) ++ take 32 (drop 16 b) ++ x) (flat_rows v1.levels (drop rows_place b) (length-drop rows_place b ∙ omega arith))
    ∙ ap (λ (x : Bytes). x ++ take 32 (drop 16 b) ++ drop rows_place b) (sym (take-add 8 8 b))
    ∙ ap (λ (x : Bytes). x ++ drop rows_place b) (sym (take-add 16 32 b))
    ∙ take-append-drop rows_place b

-- ---- from states to states

rows_flat : (rs : List Bytes) → ((l : ℕ) → l < length rs → length (get_or rs l []) ≡ 32) → rows_in (length rs) (flat rs) ≡ rs
unfolding flat rows_in
rows_flat [] w = refl
rows_flat (r ∷ rs) w =
    let e = w 0 (omega arith) in
    ap₂ {A = Bytes} {B = List Bytes} {C = List Bytes} (λ x l. x ∷ l) (take_at r (flat rs) 32 e)
    (ap (rows_in (length rs)) (drop_at r (flat rs) 32 e) ∙ rows_flat rs (λ l h. w (suc l) (omega arith)))

-- THE STATE THAT STANDS IN A STATE'S BYTES IS THAT STATE
pub in_wire : (h : Held) → Sized v1 h → held_in (wire_of h) ≡ h
unfolding wire_of held_in
in_wire h s =
    let rest = h.digest ++ flat h.rows in
    ap₂ (λ (l n : ℕ). record { log = l; count = n; digest = take 32 rest; rows = rows_in v1.levels (drop 32 rest) })
    (number_be 8 h.log s.log_fits) (number_be 8 h.count s.count_fits)
    ∙ ap₂ (λ (d : Bytes) (rs : List Bytes). record { log = h.log; count = h.count; digest = d; rows = rs })
    (take_at h.digest (flat h.rows) 32 s.digest_whole)
    (ap (rows_in v1.levels) (drop_at h.digest (flat h.rows) 32 s.digest_whole)
    ∙ ap (λ (k : ℕ). rows_in k (flat h.rows)) (sym s.rows_all)
    ∙ rows_flat h.rows (λ l b. s.rows_whole l (omega (arith, s.rows_all))))
