-- The outcome of each call, test by test. A test that an outcome does not come to may be anything.
use Rattle.std.specs.Prelude.{◌≡◌, Bool, cond, ◌&&◌, ◌%◌, leb, ltb, eqb, length}
use Rattle.lists.specs.Bytes.{Bytes, same}
use Rattle.rules.specs.Refusals.{done, too_long, output_short, not_accepted}
use Rattle.rules.specs.Calls.{written, gives, refuses, over}
use Rattle.dictionary.specs.Refusals.{list_refused, other_kind}
use Rattle.dictionary.specs.Handles.{handle, rows_of, listed}
use Rattle.dictionary.specs.Trie.{shown_full, shown_empty}
use Rattle.dictionary.specs.Meeting.{meeting}
use Rattle.dictionary.specs.Calls.{key_long, formed, denied, showing, roomy, judged, proof_of, prove_call, check_presence, check_absence, clash_call}

module _ (H : Bytes → Bytes) where
  pub prove_is : (s key out : Bytes) {asked long may true_kind short : Bool} → key_long key ≡ long → listed s ≡ may → asked ≡ true_kind → ltb (length out) (length (proof_of H s key)) ≡ short
      → prove_call H asked s key out
      ≡ cond long (written (refuses too_long) out) (cond may (cond true_kind (cond short (written (refuses output_short) out)
      (written (gives (length (proof_of H s key))) (over (proof_of H s key) out))) (written (refuses other_kind) out)) (written (refuses list_refused) out))
  unfolding prove_call
  prove_is s key out el em ek es = rw (el, em, ek, es)

  pub presence_is : (key root p : Bytes) {long sized shown : Bool} → key_long key ≡ long → eqb (length p) 8192 ≡ sized → same (shown_full H (handle H key) (rows_of p)) root ≡ shown
      → check_presence H key root p ≡ judged long sized shown
  unfolding check_presence
  presence_is key root p el ez es = rw (el, ez, es)

  pub absence_is : (key root p : Bytes) {long whole few shown : Bool} → key_long key ≡ long → eqb (length p % 32) 0 ≡ whole → leb (length p) 8192 ≡ few
      → same (shown_empty H (handle H key) (rows_of p)) root ≡ shown → check_absence H key root p ≡ judged long (whole && few) shown
  unfolding check_absence
  absence_is key root p el ew ef es = rw (el, ew, ef, es)

  pub clash_is : (key root p q b1 b2 : Bytes) {room one two : Bool} → roomy b1 b2 ≡ room → eqb (check_presence H key root p) done ≡ one → eqb (check_absence H key root q) done ≡ two
      → clash_call H key root p q b1 b2
      ≡ cond room (cond one (cond two (showing (meeting H 256 (handle H key) (rows_of p) (rows_of q)) b1 b2) (formed (denied not_accepted 2) b1 b2)) (formed (denied not_accepted 1) b1 b2))
      (formed (denied output_short 0) b1 b2)
  unfolding clash_call
  clash_is key root p q b1 b2 er e1 e2 = rw (er, e1, e2)
