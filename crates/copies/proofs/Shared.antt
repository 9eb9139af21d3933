-- WHAT TWO STORES THAT AGREE GIVE, for any hash: where the answer is "equal", or that one is the start of the other, every digest, every held state and every
-- proof up to the lower count is the same from both.
use Rattle.std.specs.Prelude.{◌≡◌, refl, ℕ, zero, suc, ◌+◌, ◌-◌, ◌≤◌, ◌<◌, length, get_or, take, drop}
use Rattle.std.proofs.Common.{sym, ap, ◌∙◌, inl, le_refl, le_trans, arith, get_or-take, get_or-drop}
use Rattle.std.proofs.Math.Nat.{min-eq_left, min-eq_right}
use Rattle.lists.specs.Bytes.{Bytes}
use Rattle.lists.specs.Pasted.{part_same}
use Rattle.rules.specs.Numbers.{Version}
use Rattle.rules.specs.Messages.{start_msg}
use Rattle.rules.specs.Store.{place, count_of, body_of, fields_size, fields_of, t_of}
use Rattle.rules.proofs.Places.{place_below, place_fits, count_le}
use Rattle.rules.proofs.Damage.{ordered}
use Rattle.rules.proofs.Stored.{t_start, t_at}
use Rattle.rules.specs.Calls.{digest_call, held_call, build_membership_call, build_advancement_call}
use Rattle.rules.proofs.Alike.{Agree, Level, digest_alike, held_alike, membership_alike, advancement_alike}
use Rattle.copies.specs.Comparing.{common, Finding, equal, first_shorter, second_shorter, differ}
use Rattle.copies.specs.Calls.{found, compare_call}
use Rattle.copies.proofs.Meaning.{SameTo, Shows, Comparable}
use Rattle.copies.proofs.Exactly.{found_shows}

-- the answer is "equal", or that one is the start of the other
abbrev pub Agreeing : Finding → Type 0
Agreeing equal = Unit {0}
Agreeing first_shorter = Unit {0}
Agreeing second_shorter = Unit {0}
Agreeing (differ n b) = ⊥

-- where a byte of an element stands
pub field_byte : (v : Version) (s : Bytes) (j i : ℕ) → i < fields_size v → get_or (fields_of v s j) i 0 ≡ get_or s (place v (j - 1) + i) 0
field_byte v s j i h = get_or-take (fields_size v) (drop (place v (j - 1)) s) i 0 h ∙ get_or-drop (place v (j - 1)) s i 0

-- up to n the two stores give the same
pub record GiveTheSame (H : Bytes → Bytes) (v : Version) (s t : Bytes) (n : ℕ) : Type 0 where
  pub digests : (j : ℕ) → j ≤ n → digest_call H v t j ≡ digest_call H v s j
  pub held : (j : ℕ) → j ≤ n → held_call H v t j ≡ held_call H v s j
  pub memberships : (i m : ℕ) (out : Bytes) → m ≤ n → build_membership_call H v t i m out ≡ build_membership_call H v s i m out
  pub advancements : (i m : ℕ) (out : Bytes) → m ≤ n → build_advancement_call H v t i m out ≡ build_advancement_call H v s i m out

-- ---- an element whose first k bytes are the same has the same body and, with all of them, the same T

module _ (H : Bytes → Bytes) (v : Version) (s t : Bytes) (j : ℕ) (from_one : 1 ≤ j) (first_fits : place v j ≤ length s) (second_fits : place v j ≤ length t)
    (k : ℕ) (most : k ≤ fields_size v) (bytes : (i : ℕ) → i < k → get_or (fields_of v s j) i 0 ≡ get_or (fields_of v t j) i 0) where
  abbrev at : ℕ
  at = place v (j - 1)

  room : at + fields_size v ≤ place v j
  room = let p = place_below v (j - 1) j (omega arith) in omega arith

  byte : (i : ℕ) → i < k → get_or t (at + i) 0 ≡ get_or s (at + i) 0
  byte i h = sym (field_byte v t j i (omega arith)) ∙ sym (bytes i h) ∙ field_byte v s j i (omega arith)

  part : (a n : ℕ) → a + n ≤ k → take n (drop (at + a) t) ≡ take n (drop (at + a) s)
  part a n h = part_same t s (at + a) (at + a) n (omega (arith, room)) (omega (arith, room)) at_byte
    where
      at_byte : (i : ℕ) → i < n → get_or t (at + a + i) 0 ≡ get_or s (at + a + i) 0
      at_byte i g =
          let q : at + a + i ≡ at + (a + i) = omega arith in
          ap (λ (x : ℕ). get_or t x 0) q ∙ byte (a + i) (omega arith) ∙ ap (λ (x : ℕ). get_or s x 0) (sym q)

  pub same_body : v.before + 32 ≤ k → body_of v t j ≡ body_of v s j
  same_body h =
      let q : at + 0 ≡ at = omega arith in
      ap (λ (x : ℕ). take (v.before + 32) (drop x t)) (sym q) ∙ part 0 (v.before + 32) (omega arith) ∙ ap (λ (x : ℕ). take (v.before + 32) (drop x s)) q

  pub same_t : fields_size v ≤ k → t_of H v t j ≡ t_of H v s j
  same_t h = t_at H v t j from_one ∙ part (v.before + 32) 32 (omega arith) ∙ sym (t_at H v s j from_one)

-- ---- the first store is the start of the other

module _ (H : Bytes → Bytes) (v : Version) (s t : Bytes) (c : Comparable v s t) (less : count_of v s ≤ count_of v t) (same : SameTo v s t (count_of v s)) where
  first_fits : (j : ℕ) → j ≤ count_of v s → place v j ≤ length s
  first_fits j h = place_fits v s j (ordered v s c.first_sound).long (le_trans h (count_le v s))

  second_fits : (j : ℕ) → j ≤ count_of v s → place v j ≤ length t
  second_fits j h = place_fits v t j (ordered v t c.second_sound).long (le_trans (le_trans h less) (count_le v t))

  digest : (j : ℕ) → j ≤ count_of v s → t_of H v t j ≡ t_of H v s j
  digest zero h = t_start H v t 0 refl ∙ ap (λ (log : ℕ). H (start_msg v log)) (sym c.one_log) ∙ sym (t_start H v s 0 refl)
  digest (suc r) h =
      same_t H v s t (suc r) (omega arith) (first_fits (suc r) h) (second_fits (suc r) h) (fields_size v) (le_refl (fields_size v))
      (λ i g. ap (λ (x : Bytes). get_or x i 0) (same (suc r) (omega arith) h)) (le_refl (fields_size v))

  agree : Agree H v s t
  agree = record {
    first_sound = c.first_sound;
    second_sound = c.second_sound;
    log = sym c.one_log;
    digest = digest;
    body = λ j g h.
        same_body H v s t j g (first_fits j h) (second_fits j h) (fields_size v) (le_refl (fields_size v)) (λ i l. ap (λ (x : Bytes). get_or x i 0) (same j g h)) (omega arith);
  }

  level : (j : ℕ) → j ≤ count_of v s → Level v s t j
  level j h = inl (h, le_trans h less)

  start_gives : GiveTheSame H v s t (count_of v s)
  start_gives = record {
    digests = λ j h. digest_alike H v s t agree j (level j h);
    held = λ j h. held_alike H v s t agree j (level j h);
    memberships = λ i m out h. membership_alike H v s t agree i m out (level m h);
    advancements = λ i m out h. advancement_alike H v s t agree i m out (level m h);
  }

-- ---- the call

module _ (H : Bytes → Bytes) (v : Version) (s t : Bytes) where
  turned : (n : ℕ) → GiveTheSame H v t s n → GiveTheSame H v s t n
  turned n g = record {
    digests = λ j h. sym (g.digests j h);
    held = λ j h. sym (g.held j h);
    memberships = λ i m out h. sym (g.memberships i m out h);
    advancements = λ i m out h. sym (g.advancements i m out h);
  }

  -- EQUAL, OR ONE THE START OF THE OTHER: up to the lower count they give the same.
  pub agreeing_gives : (f : Finding) → Agreeing f → compare_call v s t ≡ found f → GiveTheSame H v s t (common v s t)
  agreeing_gives f a q = go f a (found_shows v s t f q).0 (found_shows v s t f q).1
    where
      other : Comparable v s t → Comparable v t s
      other c = record { first_sound = c.second_sound; second_sound = c.first_sound; one_log = sym c.one_log }

      go : (f : Finding) → Agreeing f → Comparable v s t → Shows v s t f → GiveTheSame H v s t (common v s t)
      go equal a c e = rw (min-eq_left {n = count_of v s} {m = count_of v t} (omega (arith, e.0))) (start_gives H v s t c (omega (arith, e.0)) e.1)
      go first_shorter a c e = rw (min-eq_left {n = count_of v s} {m = count_of v t} (omega (arith, e.0))) (start_gives H v s t c (omega (arith, e.0)) e.1)
      go second_shorter a c e =
          rw (min-eq_right {n = count_of v t} {m = count_of v s} (omega (arith, e.0)))
          (turned (count_of v t) (start_gives H v t s (other c) (omega (arith, e.0)) (λ j g h. sym (e.1 j g h))))
      go (differ n b) a c e = absurd a
