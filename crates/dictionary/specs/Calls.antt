-- The whole outcome of each call on the dictionary: the number, the numbers beside it, and what lent memory holds after it. For any hash H.
use Rattle.std.specs.Prelude.{Bool, cond, not, ◌&&◌, ℕ, ◌%◌, leb, ltb, eqb, length}
use Rattle.lists.specs.Bytes.{Bytes, same, zeros}
use Rattle.rules.specs.Numbers.{entry_limit}
use Rattle.rules.specs.Refusals.{done, too_long, output_short, not_accepted}
use Rattle.rules.specs.Calls.{Written, written, gives, refuses, Found, found, over}
use Rattle.dictionary.specs.Refusals.{list_refused, other_kind, proof_length, root_differs}
use Rattle.dictionary.specs.Handles.{handle, rows_of, flat, listed, has}
use Rattle.dictionary.specs.Trie.{root_of, way, shown_full, shown_empty}
use Rattle.dictionary.specs.Meeting.{Meets, two, lone, meeting}

-- "Keys obey the entry limit."
abbrev pub key_long : Bytes → Bool
key_long key = ltb entry_limit (length key)

-- what the routine that forms the messages answers
pub data Finding : Type 0 where
  clashing : ℕ → ℕ → Finding  -- the lengths of the two messages
  zeroed : ℕ → Finding  -- the length of the one message
  denied : ℕ → ℕ → Finding  -- the number; with 13, the proof that is not accepted

-- what is answered, and what the two buffers hold then
pub record Formed : Type 0 where
  pub finding : Finding
  pub first : Bytes
  pub second : Bytes

abbrev pub formed : Finding → Bytes → Bytes → Formed
formed f b1 b2 = record { finding = f; first = b1; second = b2 }

-- the messages, from the start of the buffers on
abbrev pub showing : Meets → Bytes → Bytes → Formed
showing (two a b) b1 b2 = formed (clashing (length a) (length b)) (over a b1) (over b b2)
showing (lone a) b1 b2 = formed (zeroed (length a)) (over a b1) b2

-- the longest message, of an inner node, fits both buffers
abbrev pub roomy : Bytes → Bytes → Bool
roomy b1 b2 = leb 65 (length b1) && leb 65 (length b2)

-- the number of a check: whether the key is too long, the length fits, and the root is the one shown
abbrev pub judged : Bool → Bool → Bool → ℕ
judged long sized shown = cond long too_long (cond sized (cond shown done root_differs) proof_length)

module _ (H : Bytes → Bytes) where
  unfoldable pub handle_call : Bytes → Found
  handle_call key = cond (key_long key) (found too_long zeros) (found done (handle H key))

  unfoldable pub root_call : Bytes → Found
  root_call s = cond (listed s) (found done (root_of H (rows_of s))) (found list_refused zeros)

  -- ---- building: "Each kind is built exactly when true." "List and kind come before 6."

  -- the proof for a key from the list s
  abbrev pub proof_of : Bytes → Bytes → Bytes
  proof_of s key = flat (way H 256 (handle H key) (rows_of s))

  -- where `asked` is whether the asked kind is true
  unfoldable pub prove_call : Bool → Bytes → Bytes → Bytes → Written
  prove_call asked s key out =
      cond (key_long key) (written (refuses too_long) out)
      (cond (listed s)
      (cond asked
      (cond (ltb (length out) (length (proof_of s key))) (written (refuses output_short) out)
      (written (gives (length (proof_of s key))) (over (proof_of s key) out)))
      (written (refuses other_kind) out))
      (written (refuses list_refused) out))

  abbrev pub is_present : Bytes → Bytes → Bool
  is_present s key = has (handle H key) (rows_of s)

  abbrev pub presence_call : Bytes → Bytes → Bytes → Written
  presence_call s key out = prove_call (is_present s key) s key out

  abbrev pub absence_call : Bytes → Bytes → Bytes → Written
  absence_call s key out = prove_call (not (is_present s key)) s key out

  -- ---- checking

  -- "256 for presence"
  unfoldable pub check_presence : Bytes → Bytes → Bytes → ℕ
  check_presence key root p = judged (key_long key) (eqb (length p) 8192) (same (shown_full H (handle H key) (rows_of p)) root)

  -- "0 to 256 whole ones (absence)"
  unfoldable pub check_absence : Bytes → Bytes → Bytes → ℕ
  check_absence key root p =
      judged (key_long key) (eqb (length p % 32) 0 && leb (length p) 8192) (same (shown_empty H (handle H key) (rows_of p)) root)

  -- ---- the messages of an accepted presence and an accepted absence

  unfoldable pub clash_call : Bytes → Bytes → Bytes → Bytes → Bytes → Bytes → Formed
  clash_call key root p q b1 b2 =
      cond (roomy b1 b2)
      (cond (eqb (check_presence key root p) done)
      (cond (eqb (check_absence key root q) done)
      (showing (meeting H 256 (handle H key) (rows_of p) (rows_of q)) b1 b2)
      (formed (denied not_accepted 2) b1 b2))
      (formed (denied not_accepted 1) b1 b2))
      (formed (denied output_short 0) b1 b2)
