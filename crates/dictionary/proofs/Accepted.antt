-- What acceptance says of a proof, for any hash H.
use Rattle.std.specs.Prelude.{◌≡◌, refl, Bool, true, false, ◌&&◌, ℕ, ◌%◌, ◌≤◌, leb, eqb, length}
use Rattle.std.proofs.Common.{sym, ap, ◌∙◌, ltb-false, leb-true, eqb-true}
use Rattle.std.proofs.lemmas.Bool.{false≢true}
use Rattle.lists.specs.Bytes.{Bytes, same}
use Rattle.lists.specs.Same.{same_true}
use Rattle.rules.specs.Numbers.{entry_limit}
use Rattle.rules.specs.Refusals.{done}
use Rattle.dictionary.specs.Handles.{handle, rows_of}
use Rattle.dictionary.specs.Trie.{shown_full, shown_empty}
use Rattle.dictionary.specs.Calls.{key_long, judged, check_presence, check_absence}
use Rattle.dictionary.proofs.Answers.{presence_is, absence_is}

module _ (H : Bytes → Bytes) (key root p : Bytes) where
  -- an accepted presence
  pub record Full : Type 0 where
    pub short : length key ≤ entry_limit
    pub sized : length p ≡ 8192
    pub shown : shown_full H (handle H key) (rows_of p) ≡ root

  pub full : eqb (check_presence H key root p) done ≡ true → Full
  full h = go (key_long key) (eqb (length p) 8192) (same (shown_full H (handle H key) (rows_of p)) root) refl refl refl
    where
      told : {a b c : Bool} → key_long key ≡ a → eqb (length p) 8192 ≡ b → same (shown_full H (handle H key) (rows_of p)) root ≡ c → eqb (judged a b c) done ≡ true
      told ea eb ec = sym (ap (λ (n : ℕ). eqb n done) (presence_is H key root p ea eb ec)) ∙ h

      go : (a b c : Bool) → key_long key ≡ a → eqb (length p) 8192 ≡ b → same (shown_full H (handle H key) (rows_of p)) root ≡ c → Full
      go true b c ea eb ec = absurd (false≢true (told ea eb ec))
      go false false c ea eb ec = absurd (false≢true (told ea eb ec))
      go false true false ea eb ec = absurd (false≢true (told ea eb ec))
      go false true true ea eb ec = record { short = ltb-false entry_limit (length key) ea; sized = eqb-true (length p) 8192 eb; shown = same_true _ root ec }

  -- an accepted absence
  pub record Empty : Type 0 where
    pub short : length key ≤ entry_limit
    pub whole : length p % 32 ≡ 0
    pub most : length p ≤ 8192
    pub shown : shown_empty H (handle H key) (rows_of p) ≡ root

  pub empty : eqb (check_absence H key root p) done ≡ true → Empty
  empty h = go (key_long key) (eqb (length p % 32) 0) (leb (length p) 8192) (same (shown_empty H (handle H key) (rows_of p)) root) refl refl refl refl
    where
      told : {a b c d : Bool} → key_long key ≡ a → eqb (length p % 32) 0 ≡ b → leb (length p) 8192 ≡ c → same (shown_empty H (handle H key) (rows_of p)) root ≡ d
          → eqb (judged a (b && c) d) done ≡ true
      told ea eb ec ed = sym (ap (λ (n : ℕ). eqb n done) (absence_is H key root p ea eb ec ed)) ∙ h

      go : (a b c d : Bool) → key_long key ≡ a → eqb (length p % 32) 0 ≡ b → leb (length p) 8192 ≡ c → same (shown_empty H (handle H key) (rows_of p)) root ≡ d → Empty
      go true b c d ea eb ec ed = absurd (false≢true (told ea eb ec ed))
      go false false c d ea eb ec ed = absurd (false≢true (told ea eb ec ed))
      go false true false d ea eb ec ed = absurd (false≢true (told ea eb ec ed))
      go false true true false ea eb ec ed = absurd (false≢true (told ea eb ec ed))
      go false true true true ea eb ec ed = record { short = ltb-false entry_limit (length key) ea; whole = eqb-true (length p % 32) 0 eb; most = leb-true (length p) 8192 ec; shown = same_true _ root ed }
