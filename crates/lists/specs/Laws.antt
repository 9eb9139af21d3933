-- Laws on lists that no one crate owns: a list that is filled from the front, parts of a list, and what stands behind the first i elements.
use Rattle.std.specs.Prelude.{◌≡◌, refl, List, map, [], ◌∷◌, ◌++◌, ℕ, zero, suc, ◌+◌, ◌≤◌, ◌<◌, length, get_or, take, drop, set, replicate}
use Rattle.std.proofs.Common.{sym, ap, ◌∙◌, append_assoc, append-nil, add-one, arith, length-drop, drop_of_length-le, drop-cons, take-suc, take-add, take-suc-set, get_or-take, get_or-drop, length-take-le}
use Rattle.std.proofs.lemmas.List.{length-map}
use Rattle.std.proofs.lemmas.List.Edits.{sets, sets-eq}

-- a store at t makes the first t elements one more
pub take_stored : (w : List ℕ) (t x : ℕ) (p : List ℕ) → t < length w → take t w ≡ p → take (t + 1) (set w t x) ≡ p ++ (x ∷ [])
take_stored w t x p h e = rw (add-one, take-suc-set w t x h, e)

-- an element of a list whose first t elements are known
pub get_d_known : (w p : List ℕ) (t i : ℕ) → i < t → take t w ≡ p → get_or w i 0 ≡ get_or p i 0
get_d_known w p t i h e = sym (get_or-take t w i 0 h) ∙ ap (λ (l : List ℕ). get_or l i 0) e

-- an element of a part, and the part's length
pub get_d_part : (n at i : ℕ) (s : List ℕ) → i < n → get_or (take n (drop at s)) i 0 ≡ get_or s (at + i) 0
get_d_part n at i s h = rw (get_or-take, get_or-drop)

pub length_part : (n at : ℕ) (s : List ℕ) → at + n ≤ length s → length (take n (drop at s)) ≡ n
length_part n at s h =
    let r : n ≤ length (drop at s) = simp length-drop (omega arith) in
    length-take-le n (drop at s) r

-- m and the first i elements of s, one element or n elements further on
pub further : (m s : List ℕ) (i : ℕ) → i < length s → m ++ take (i + 1) s ≡ (m ++ take i s) ++ (get_or s i 0 ∷ [])
further m s i h = rw (add-one, take-suc s i 0 h, append_assoc)

pub further_by : (n : ℕ) (m s : List ℕ) (i : ℕ) → m ++ take (i + n) s ≡ (m ++ take i s) ++ take n (drop i s)
further_by n m s i = rw (take-add, append_assoc)

pub take_replicate : (k n a : ℕ) → k ≤ n → take k (replicate n a) ≡ replicate k a
take_replicate zero n a h = refl
take_replicate (suc k) zero a h = absurd (omega arith)
take_replicate (suc k) (suc n) a h = ap {B = List ℕ} (λ l. a ∷ l) (take_replicate k n a (omega arith))

-- a run of stores, one store further on
pub sets_further : (l s : List ℕ) (at i : ℕ) → i < length s → sets l (at + i) (drop i s) ≡ sets (set l (at + i) (get_or s i 0)) (at + (i + 1)) (drop (i + 1) s)
sets_further l s at i h =
    let e : at + (i + 1) ≡ suc (at + i) = omega arith in
    rw (drop-cons s i 0 h, e, add-one i)

pub sets_ended : (l s : List ℕ) (at i : ℕ) → length s ≤ i → sets l (at + i) (drop i s) ≡ l
sets_ended l s at i h = rw (drop_of_length-le s h)

-- a run of stores up to the end of a list
pub sets_end : (l s : List ℕ) (at : ℕ) → at + length s ≡ length l → sets l at s ≡ take at l ++ s
sets_end l s at e =
    sets-eq s l at (omega arith)
    ∙ ap (λ (r : List ℕ). take at l ++ s ++ r) (drop_of_length-le l {i = at + length s} (omega arith))
    ∙ append-nil (take at l ++ s)

-- a list has the length of one that is made of it element by element, as a struct's array is of its bytes
pub mapped_long : {B : Type 0} {n : ℕ} (l : List ℕ) (f : ℕ → B) → length (map f l) ≡ n → length l ≡ n
mapped_long l f h = sym (length-map l f) ∙ h
