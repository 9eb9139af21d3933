-- What each answer says of two stores in order: `Shows`, a line for each. The answer that the definition finds says what holds (`shown`), and one that says
-- what holds is the one that it finds (`only`): of N and B, that they are the least.
use Rattle.std.specs.Prelude.{◌≡◌, refl, ◌≢◌, Bool, true, false, ℕ, ◌+◌, ◌≤◌, ◌<◌, min, leb, ltb, length, get_or}
use Rattle.std.proofs.Common.{ap, ◌∙◌, zero-le, le_trans, arith, lt-ltb, le-ltb, ltb-false, ltb-true, le-leb, leb-true, leb-false, eqb-true}
use Rattle.std.proofs.Math.Nat.{min-le_left, min-le_right, min-eq_left, min-eq_right}
use Rattle.std.proofs.Math.Decide.{dec_lt, dec_le}
use Rattle.std.proofs.lemmas.Bool.{lt-leb, eqb-false}
use Rattle.lists.specs.Bytes.{Bytes}
use Rattle.lists.specs.Same.{same_true, same_false, same_eq}
use Rattle.rules.specs.Numbers.{Version}
use Rattle.rules.specs.Store.{damaged, log_of, count_of, fields_size, fields_of}
use Rattle.rules.proofs.Places.{place_fits, count_le}
use Rattle.rules.proofs.Damage.{ordered}
use Rattle.rules.proofs.Stored.{fields_length}
use Rattle.copies.specs.Comparing.{same_element, same_byte, common, element_at, byte_at, Finding, equal, first_shorter, second_shorter, differ, finding}
use Rattle.copies.proofs.First.{First, first_is, one_first, byte_same, byte_other, string_other, string_same}
use Rattle.copies.proofs.Answers.{finding_is}

-- ---- what an answer says

module _ (v : Version) (s t : Bytes) where
  -- the elements up to n are the same in both
  abbrev pub SameTo : ℕ → Type 0
  SameTo n = (j : ℕ) → 1 ≤ j → j ≤ n → fields_of v s j ≡ fields_of v t j

  -- both have element n, which differs at byte b; all before it is the same: each lower element, and each lower byte of this one
  pub record Differs (n b : ℕ) : Type 0 where
    pub from_one : 1 ≤ n
    pub in_first : n ≤ count_of v s
    pub in_second : n ≤ count_of v t
    pub elements : (j : ℕ) → 1 ≤ j → j < n → fields_of v s j ≡ fields_of v t j
    pub within : b < fields_size v
    pub bytes : (i : ℕ) → i < b → get_or (fields_of v s n) i 0 ≡ get_or (fields_of v t n) i 0
    pub there : get_or (fields_of v s n) b 0 ≢ get_or (fields_of v t n) b 0

  abbrev pub Shows : Finding → Type 0
  Shows equal = (count_of v s ≡ count_of v t) × SameTo (count_of v s)
  Shows first_shorter = (count_of v s < count_of v t) × SameTo (count_of v s)
  Shows second_shorter = (count_of v t < count_of v s) × SameTo (count_of v t)
  Shows (differ n b) = Differs n b

  -- two stores that can be compared: neither is damaged, and they have one log number
  pub record Comparable : Type 0 where
    pub first_sound : damaged v s ≡ false
    pub second_sound : damaged v t ≡ false
    pub one_log : log_of s ≡ log_of t

-- An element that is counted has all of its bytes.
counted_length : (v : Version) (s : Bytes) → damaged v s ≡ false → (j : ℕ) → 1 ≤ j → j ≤ count_of v s → length (fields_of v s j) ≡ fields_size v
counted_length v s d j g h = fields_length v s j g (place_fits v s j (ordered v s d).long (le_trans h (count_le v s)))

below_both : {n a b : ℕ} → n ≤ a → n ≤ b → n ≤ min a b
below_both {n} {a} {b} l r = go (dec_le a b)
  where
    go : Dec (a ≤ b) → n ≤ min a b
    go (yes h) = omega (arith, min-eq_left {n = a} {m = b} h)
    go (no h) = omega (arith, min-eq_right {n = b} {m = a} (omega arith))

-- ---- the search for the first element

module _ (v : Version) (s t : Bytes) where
  -- the search of the common elements that ended at n
  abbrev Ends : ℕ → Type 0
  Ends n = First (same_element v s t) 1 (1 + common v s t) n

  ended : Ends (element_at v s t)
  ended = first_is (same_element v s t) (common v s t) 1

  -- Where it ended behind the last, all are the same.
  none_differs : common v s t < element_at v s t → SameTo v s t (common v s t)
  none_differs h j g l = same_true (fields_of v s j) (fields_of v t j) (ended.before j g (omega arith))

  -- Where all are the same, it ends behind the last.
  all_same : SameTo v s t (common v s t) → common v s t < element_at v s t
  all_same e = go (dec_le (element_at v s t) (common v s t))
    where
      go : Dec (element_at v s t ≤ common v s t) → common v s t < element_at v s t
      go (yes h) =
          absurd (same_false (fields_of v s (element_at v s t)) (fields_of v t (element_at v s t)) (ended.there (omega arith)) (e (element_at v s t) ended.start h))
      go (no h) = omega arith

  -- ---- an answer is what it says

  module _ (sound : damaged v s ≡ false) (sound' : damaged v t ≡ false) where
    -- Two counted elements that are not the same differ within their bytes.
    byte_within : (n : ℕ) → 1 ≤ n → n ≤ count_of v s → n ≤ count_of v t → fields_of v s n ≢ fields_of v t n → byte_at v s t n < fields_size v
    byte_within n g l r d = go (dec_lt (byte_at v s t n) (fields_size v)) (first_is (same_byte (fields_of v s n) (fields_of v t n)) (fields_size v) 0).most
      where
        go : Dec (byte_at v s t n < fields_size v) → byte_at v s t n ≤ 0 + fields_size v → byte_at v s t n < fields_size v
        go (yes h) m = h
        go (no h) m =
            let e : byte_at v s t n ≡ fields_size v = omega arith in
            absurd (d (string_same (fields_of v s n) (fields_of v t n) (fields_size v) (counted_length v s sound n g l) (counted_length v t sound' n g r) e))

    first_differs : element_at v s t ≤ common v s t → Differs v s t (element_at v s t) (byte_at v s t (element_at v s t))
    first_differs h =
        let n = element_at v s t in
        let x = fields_of v s n in
        let y = fields_of v t n in
        let left = le_trans h (min-le_left (count_of v s) (count_of v t)) in
        let right = le_trans h (min-le_right (count_of v s) (count_of v t)) in
        let f = first_is (same_byte x y) (fields_size v) 0 in
        let less : byte_at v s t n < fields_size v = byte_within n ended.start left right (same_false x y (ended.there (omega arith))) in record {
          from_one = ended.start;
          in_first = left;
          in_second = right;
          elements = λ j g l. same_true (fields_of v s j) (fields_of v t j) (ended.before j g l);
          within = less;
          bytes = λ i l. eqb-true (get_or x i 0) (get_or y i 0) (f.before i zero-le l);
          there = eqb-false (get_or x (byte_at v s t n) 0) (get_or y (byte_at v s t n) 0) (f.there (omega (arith, less)));
        }

    -- The answer that is given says what holds of the two stores,
    pub shown : Shows v s t (finding v s t)
    shown = go (leb (element_at v s t) (common v s t)) refl (ltb (count_of v s) (count_of v t)) refl (ltb (count_of v t) (count_of v s)) refl
      where
        alike : leb (element_at v s t) (common v s t) ≡ false → SameTo v s t (common v s t)
        alike e = none_differs (leb-false (element_at v s t) (common v s t) e)

        go : (a : Bool) → leb (element_at v s t) (common v s t) ≡ a → (b : Bool) → ltb (count_of v s) (count_of v t) ≡ b → (c : Bool) → ltb (count_of v t) (count_of v s) ≡ c
            → Shows v s t (finding v s t)
        go true ea b eb c ec = rw (finding_is v s t ea eb ec) (first_differs (leb-true (element_at v s t) (common v s t) ea))
        go false ea true eb c ec = rw (finding_is v s t ea eb ec)
            (let less = ltb-true (count_of v s) (count_of v t) eb in (less, λ j g h. alike ea j g (omega (arith, min-eq_left {n = count_of v s} {m = count_of v t} (omega arith)))))
        go false ea false eb true ec = rw (finding_is v s t ea eb ec)
            (let less = ltb-true (count_of v t) (count_of v s) ec in (less, λ j g h. alike ea j g (omega (arith, min-eq_right {n = count_of v t} {m = count_of v s} (omega arith)))))
        go false ea false eb false ec = rw (finding_is v s t ea eb ec)
            (let least = ltb-false (count_of v s) (count_of v t) eb in
            let most = ltb-false (count_of v t) (count_of v s) ec in
            (omega arith, λ j g h. alike ea j g (omega (arith, min-eq_left {n = count_of v s} {m = count_of v t} (omega arith)))))

    -- and an answer that says what holds is the one that is given.
    pub only : (f : Finding) → Shows v s t f → finding v s t ≡ f
    only equal e =
        let past = all_same (λ j g h. e.1 j g (omega (arith, min-eq_left {n = count_of v s} {m = count_of v t} (omega arith)))) in
        finding_is v s t (lt-leb (element_at v s t) (common v s t) past) (le-ltb (count_of v s) (count_of v t) (omega arith)) (le-ltb (count_of v t) (count_of v s) (omega arith))
    only first_shorter e =
        let past = all_same (λ j g h. e.1 j g (omega (arith, min-eq_left {n = count_of v s} {m = count_of v t} (omega arith)))) in
        finding_is v s t (lt-leb (element_at v s t) (common v s t) past) (lt-ltb (count_of v s) (count_of v t) e.0) refl
    only second_shorter e =
        let past = all_same (λ j g h. e.1 j g (omega (arith, min-eq_right {n = count_of v t} {m = count_of v s} (omega arith)))) in
        finding_is v s t (lt-leb (element_at v s t) (common v s t) past) (le-ltb (count_of v s) (count_of v t) (omega arith)) (lt-ltb (count_of v t) (count_of v s) e.0)
    only (differ n b) e =
        let x = fields_of v s n in
        let y = fields_of v t n in
        let least : n ≤ common v s t = below_both e.in_first e.in_second in
        let element : element_at v s t ≡ n = one_first (same_element v s t) 1 (1 + common v s t) (element_at v s t) n ended (record {
          start = e.from_one;
          most = omega arith;
          before = λ j g h. same_eq (fields_of v s j) (fields_of v t j) (e.elements j g h);
          there = λ h. string_other x y b e.there;
        }) in
        let byte : byte_at v s t n ≡ b = one_first (same_byte x y) 0 (0 + fields_size v) (byte_at v s t n) b (first_is (same_byte x y) (fields_size v) 0) (record {
          start = zero-le;
          most = let w = e.within in omega arith;
          before = λ i g h. byte_same x y i (e.bytes i h);
          there = λ h. byte_other x y b e.there;
        }) in
        finding_is v s t (le-leb (element_at v s t) (common v s t) (omega (arith, element, least))) refl refl
        ∙ ap (λ (j : ℕ). differ j (byte_at v s t j)) element
        ∙ ap (differ n) byte
