-- TWO STORES THAT BOTH PASS THE AUDIT DIFFER FIRST IN WHAT WAS ENTERED: a T follows from d and the digests before it, so where these are the same in both and
-- the T is not, one of the two is wrong. For any hash.
use Rattle.std.specs.Prelude.{◌≡◌, refl, false, ◌++◌, ℕ, zero, suc, ◌+◌, ◌-◌, ◌≤◌, ◌<◌, length, get_or, drop}
use Rattle.std.proofs.Common.{sym, ap, ap₂, ◌∙◌, le_refl, le_trans, arith, get_or-take, get_or-drop}
use Rattle.std.proofs.Math.Decide.{dec_lt}
use Rattle.lists.specs.Bytes.{Bytes}
use Rattle.lists.specs.Same.{same_true}
use Rattle.rules.specs.Numbers.{Version}
use Rattle.rules.specs.Paths.{tz}
use Rattle.rules.specs.Messages.{start_msg, element_msg}
use Rattle.rules.specs.Store.{place, damaged, count_of, body_of, fields_size, fields_of, t_of, linked}
use Rattle.rules.proofs.Places.{place_fits, count_le}
use Rattle.rules.proofs.Damage.{ordered}
use Rattle.rules.proofs.Stored.{t_start, t_at}
use Rattle.rules.proofs.Log.{links_agree}
use Rattle.rules.specs.Calls.{gives, audit_call}
use Rattle.rules.proofs.Passed.{passed, none_wrong}
use Rattle.copies.specs.Comparing.{differ}
use Rattle.copies.specs.Calls.{found, compare_call}
use Rattle.copies.proofs.Meaning.{Comparable, Differs}
use Rattle.copies.proofs.Exactly.{found_shows}
use Rattle.copies.proofs.Shared.{field_byte, same_body, same_t}

module _ (H : Bytes → Bytes) (v : Version) where
  -- each element that an audit passed is right
  right_there : (s : Bytes) (n : ℕ) → audit_call H v s ≡ gives n → (j : ℕ) → 1 ≤ j → j ≤ count_of v s → t_of H v s j ≡ linked H v s j (body_of v s j)
  right_there s n a j g h = same_true (t_of H v s j) (linked H v s j (body_of v s j)) (none_wrong H v s (count_of v s) 1 (le_refl 1) (passed H v s n a).none j g (omega arith))

  fits : (s : Bytes) → damaged v s ≡ false → (j : ℕ) → j ≤ count_of v s → place v j ≤ length s
  fits s d j h = place_fits v s j (ordered v s d).long (le_trans h (count_le v s))

  -- a byte of an element behind its body is one of its T
  t_byte : (s : Bytes) (j b : ℕ) → 1 ≤ j → v.before + 32 ≤ b → b < fields_size v → get_or (fields_of v s j) b 0 ≡ get_or (t_of H v s j) (b - (v.before + 32)) 0
  t_byte s j b g low high =
      let behind = place v (j - 1) + (v.before + 32) in
      let q : behind + (b - (v.before + 32)) ≡ place v (j - 1) + b = omega arith in
      field_byte v s j b high
      ∙ ap (λ (x : ℕ). get_or s x 0) (sym q)
      ∙ sym (get_or-take 32 (drop behind s) (b - (v.before + 32)) 0 (omega arith) ∙ get_or-drop behind s (b - (v.before + 32)) 0)
      ∙ ap (λ (x : Bytes). get_or x (b - (v.before + 32)) 0) (sym (t_at H v s j g))

  module _ (s t : Bytes) (c : Comparable v s t) (n b : ℕ) (d : Differs v s t n b) where
    -- The digests before the first element that differs are the same in both.
    below : (j : ℕ) → j < n → t_of H v t j ≡ t_of H v s j
    below zero h = t_start H v t 0 refl ∙ ap (λ (log : ℕ). H (start_msg v log)) (sym c.one_log) ∙ sym (t_start H v s 0 refl)
    below (suc r) h =
        same_t H v s t (suc r) (omega arith) (fits s c.first_sound (suc r) (omega (arith, d.in_first))) (fits t c.second_sound (suc r) (omega (arith, d.in_second)))
        (fields_size v) (le_refl (fields_size v)) (λ i g. ap (λ (x : Bytes). get_or x i 0) (d.elements (suc r) (omega arith) h)) (le_refl (fields_size v))

    -- Where it differs behind its body, both its body and its links are the same, so both would have one T.
    one_t : v.before + 32 ≤ b → linked H v t n (body_of v t n) ≡ linked H v s n (body_of v s n)
    one_t low =
        let body = same_body H v s t n d.from_one (fits s c.first_sound n d.in_first) (fits t c.second_sound n d.in_second) b (let w = d.within in omega arith) d.bytes low in
        let links = links_agree (t_of H v t) (t_of H v s) n (suc (tz n)) 0 d.from_one (λ i h. below i h) in
        ap₂ {A = Bytes} {B = Bytes} {C = Bytes} (λ x l. H (element_msg n (x ++ l))) body links

  -- BOTH SOUND, AND YET DIFFERENT: the first byte that differs is in d, or before it.
  pub sound_differ : (s t : Bytes) (p q n b : ℕ) → audit_call H v s ≡ gives p → audit_call H v t ≡ gives q → compare_call v s t ≡ found (differ n b) → b < v.before + 32
  sound_differ s t p q n b a a' e = go (dec_lt b (v.before + 32)) (found_shows v s t (differ n b) e).0 (found_shows v s t (differ n b) e).1
    where
      go : Dec (b < v.before + 32) → Comparable v s t → Differs v s t n b → b < v.before + 32
      go (yes h) c d = h
      go (no h) c d =
          let low : v.before + 32 ≤ b = omega arith in
          let same = right_there s p a n d.from_one d.in_first ∙ sym (one_t s t c n b d low) ∙ sym (right_there t q a' n d.from_one d.in_second) in
          absurd (d.there
          (t_byte s n b d.from_one low d.within
          ∙ ap (λ (x : Bytes). get_or x (b - (v.before + 32)) 0) same
          ∙ sym (t_byte t n b d.from_one low d.within)))
