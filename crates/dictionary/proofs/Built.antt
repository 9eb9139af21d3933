-- EACH KIND IS BUILT EXACTLY WHEN TRUE, and what is built is accepted against the root of the same list. That the proof of absence ends at the first empty node
-- on the key's way is its definition; `Shortest` says what that comes to. For any hash H that gives 32 bytes; list and key are of bytes.
use Rattle.std.specs.Prelude.{◌≡◌, refl, Bool, true, false, cond, not, ◌∷◌, ℕ, zero, suc, ◌*◌, ◌/◌, ◌%◌, ◌≤◌, ltb, length, take, drop}
use Rattle.std.proofs.Common.{sym, ap, ap₂, ◌∙◌, arith, lit<, le-ltb, eq-eqb, le-leb}
use Rattle.std.proofs.Math.Seq.{take-append_seam}
use Rattle.std.proofs.lemmas.Bool.{not-true}
use Rattle.lists.specs.Bytes.{Bytes, AreBytes, zeros}
use Rattle.lists.specs.Same.{same_eq}
use Rattle.rules.specs.Refusals.{done}
use Rattle.rules.specs.Calls.{Written, written, gives, refuses, over}
use Rattle.dictionary.specs.Refusals.{other_kind}
use Rattle.dictionary.specs.Handles.{handle, rows_of, listed}
use Rattle.dictionary.specs.Trie.{leaf_msg, root_of, way, climbed}
use Rattle.dictionary.specs.Calls.{key_long, root_call, proof_of, is_present, prove_call, presence_call, absence_call, check_presence, check_absence}
use Rattle.dictionary.proofs.Answers.{prove_is, presence_is, absence_is}
use Rattle.dictionary.proofs.Rows.{Row, rows_bytes_lem, rows_flat, flat_length}
use Rattle.dictionary.proofs.Honest.{shows_root, way_full, way_short, way_whole}

module _ (H : Bytes → Bytes) (hash_length : (m : Bytes) → length (H m) ≡ 32) (s key : Bytes) where
  abbrev k : Bytes
  k = handle H key

  proof_length_lem : length (proof_of H s key) ≡ 32 * length (way H 256 k (rows_of s))
  proof_length_lem = flat_length (way H 256 k (rows_of s)) (way_whole H hash_length 256 k (rows_of s))

  proof_rows : rows_of (proof_of H s key) ≡ way H 256 k (rows_of s)
  proof_rows = rows_flat (way H 256 k (rows_of s)) (way_whole H hash_length 256 k (rows_of s))

  -- "256 for presence": 8,192 bytes
  pub presence_size : is_present H s key ≡ true → length (proof_of H s key) ≡ 8192
  presence_size h = proof_length_lem ∙ ap (λ (n : ℕ). 32 * n) (way_full H 256 k (rows_of s) h)

  -- "0 to 256 whole ones (absence)"
  pub absence_size : length (proof_of H s key) ≤ 8192
  absence_size = let l = way_short H 256 k (rows_of s) in let e = proof_length_lem in omega arith

  module _ (short : key_long key ≡ false) (may : listed s ≡ true) (out : Bytes) where
    -- ---- built exactly when true

    -- PRESENCE IS BUILT where the list has the handle and the output has room.
    pub presence_built : is_present H s key ≡ true → 8192 ≤ length out → presence_call H s key out ≡ written (gives 8192) (over (proof_of H s key) out)
    presence_built h room =
        let e = presence_size h in
        prove_is H s key out short may h (le-ltb (length out) (length (proof_of H s key)) (omega arith))
        ∙ ap (λ (n : ℕ). written (gives n) (over (proof_of H s key) out)) e

    -- and refused where it has not
    pub presence_refused : is_present H s key ≡ false → presence_call H s key out ≡ written (refuses other_kind) out
    presence_refused h = prove_is H s key out short may h refl

    -- ABSENCE IS BUILT where the list does not have the handle and the output has room.
    pub absence_built : is_present H s key ≡ false → length (proof_of H s key) ≤ length out
        → absence_call H s key out ≡ written (gives (length (proof_of H s key))) (over (proof_of H s key) out)
    absence_built h room = prove_is H s key out short may (ap not h) (le-ltb (length out) (length (proof_of H s key)) room)

    pub absence_refused : is_present H s key ≡ true → absence_call H s key out ≡ written (refuses other_kind) out
    absence_refused h = prove_is H s key out short may (ap not h) refl

  -- ---- what a call that is done says: the kind was true, and the output begins with the proof

  pub record Done (asked : Bool) (out : Bytes) : Type 0 where
    pub key_short : key_long key ≡ false
    pub list_good : listed s ≡ true
    pub kind_true : asked ≡ true
    pub size_told : (prove_call H asked s key out).answer.value ≡ length (proof_of H s key)
    pub written_first : take (prove_call H asked s key out).answer.value (prove_call H asked s key out).bytes ≡ proof_of H s key

  pub done_says : (asked : Bool) (out : Bytes) → (prove_call H asked s key out).answer.number ≡ done → Done asked out
  done_says asked out h = go (key_long key) (listed s) asked (ltb (length out) (length (proof_of H s key))) refl refl refl refl
    where
      wrong : {w : Written} → prove_call H asked s key out ≡ w → (w.answer.number ≡ done → ⊥) → ⊥
      wrong {w} e n = n (sym (ap (λ (x : Written). x.answer.number) e) ∙ h)

      go : (long may kind small : Bool) → key_long key ≡ long → listed s ≡ may → asked ≡ kind → ltb (length out) (length (proof_of H s key)) ≡ small → Done asked out
      go true may kind small ea eb ec ed = absurd (wrong (prove_is H s key out ea eb ec ed) (λ x. omega arith))
      go false false kind small ea eb ec ed = absurd (wrong (prove_is H s key out ea eb ec ed) (λ x. omega arith))
      go false true false small ea eb ec ed = absurd (wrong (prove_is H s key out ea eb ec ed) (λ x. omega arith))
      go false true true true ea eb ec ed = absurd (wrong (prove_is H s key out ea eb ec ed) (λ x. omega arith))
      go false true true false ea eb ec ed =
          let e = prove_is H s key out ea eb ec ed in
          record {
            key_short = ea;
            list_good = eb;
            kind_true = ec;
            size_told = ap (λ (w : Written). w.answer.value) e;
            written_first = ap (λ (w : Written). take w.answer.value w.bytes) e ∙ take-append_seam (proof_of H s key) (drop (length (proof_of H s key)) out);
          }

  -- "Each kind is built exactly when true": a presence if and only if the handle is in the list, an absence if and only if it is not. This is said of a key that is
  -- not too long, a list that is not refused and an output with room.
  module _ (short : key_long key ≡ false) (may : listed s ≡ true) (out : Bytes) where
    pub presence_exactly : 8192 ≤ length out
        → ((presence_call H s key out).answer.number ≡ done → is_present H s key ≡ true) × (is_present H s key ≡ true → (presence_call H s key out).answer.number ≡ done)
    presence_exactly room = (λ h. (done_says (is_present H s key) out h).kind_true, λ h. ap (λ (w : Written). w.answer.number) (presence_built short may out h room))

    pub absence_exactly : length (proof_of H s key) ≤ length out
        → ((absence_call H s key out).answer.number ≡ done → is_present H s key ≡ false) × (is_present H s key ≡ false → (absence_call H s key out).answer.number ≡ done)
    absence_exactly room = (
      λ h. not-true (is_present H s key) (done_says (not (is_present H s key)) out h).kind_true,
      λ h. ap (λ (w : Written). w.answer.number) (absence_built short may out h room),
    )

  -- ---- accepted

  module _ (hash_bytes : (m : Bytes) → AreBytes m → AreBytes (H m)) (bytes : AreBytes s) (key_bytes : AreBytes key) where
    key_row : Row k
    key_row = record { whole = hash_length (3 ∷ key); bytes = hash_bytes (3 ∷ key) (behind key_bytes) }
      where
        behind : AreBytes key → AreBytes (3 ∷ key)
        behind a zero = lit< tt
        behind a (suc i) = a i

    shown : (b : Bool) → is_present H s key ≡ b → climbed H 256 k (rows_of (proof_of H s key)) (cond b (H (leaf_msg k)) zeros) ≡ root_of H (rows_of s)
    shown b h =
        ap₂ {A = _} {B = Bytes} {C = Bytes} (λ ss x. climbed H 256 k ss x) proof_rows (ap (λ (y : Bool). cond y (H (leaf_msg k)) zeros) (sym h))
        ∙ shows_root H k key_row (rows_of s) (rows_bytes_lem (length s / 32) s (omega arith) bytes)

    pub presence_accepted : key_long key ≡ false → is_present H s key ≡ true → check_presence H key (root_of H (rows_of s)) (proof_of H s key) ≡ done
    presence_accepted short h =
        presence_is H key (root_of H (rows_of s)) (proof_of H s key) short (eq-eqb _ 8192 (presence_size h)) (same_eq _ _ (shown true h))

    pub absence_accepted : key_long key ≡ false → is_present H s key ≡ false → check_absence H key (root_of H (rows_of s)) (proof_of H s key) ≡ done
    absence_accepted short h =
        let e = proof_length_lem in
        absence_is H key (root_of H (rows_of s)) (proof_of H s key) short (eq-eqb (length (proof_of H s key) % 32) 0 (omega arith)) (le-leb _ 8192 absence_size) (same_eq _ _ (shown false h))

    -- A BUILT PRESENCE IS ACCEPTED against the root that the same list gives.
    pub built_presence : (out : Bytes) → (presence_call H s key out).answer.number ≡ done
        → check_presence H key (root_call H s).digest (take (presence_call H s key out).answer.value (presence_call H s key out).bytes) ≡ done
    unfolding root_call
    built_presence out h =
        let d = done_says (is_present H s key) out h in
        rw (d.written_first, d.list_good) (presence_accepted d.key_short d.kind_true)

    -- A BUILT ABSENCE IS ACCEPTED against the root that the same list gives.
    pub built_absence : (out : Bytes) → (absence_call H s key out).answer.number ≡ done
        → check_absence H key (root_call H s).digest (take (absence_call H s key out).answer.value (absence_call H s key out).bytes) ≡ done
    unfolding root_call
    built_absence out h =
        let d = done_says (not (is_present H s key)) out h in
        rw (d.written_first, d.list_good) (absence_accepted d.key_short (not-true (is_present H s key) d.kind_true))
