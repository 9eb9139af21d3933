-- What a list says can't be denied. Under the root of a list that has the key's handle an accepted absence breaks the hash, and under the root of one that has
-- it not an accepted presence does: the list's own proof and the other one give two different messages of equal hash, or a message whose hash is all
-- zeros. For any hash H that gives 32 bytes; list and key are of bytes.
use Rattle.std.specs.Prelude.{◌≡◌, true, false, ℕ, eqb, length}
use Rattle.std.proofs.Common.{ap, le-ltb}
use Rattle.lists.specs.Bytes.{Bytes, AreBytes}
use Rattle.rules.specs.Numbers.{entry_limit}
use Rattle.rules.specs.Refusals.{done}
use Rattle.dictionary.specs.Handles.{handle, rows_of}
use Rattle.dictionary.specs.Trie.{root_of}
use Rattle.dictionary.specs.Meeting.{meeting}
use Rattle.dictionary.specs.Calls.{proof_of, is_present, check_presence, check_absence}
use Rattle.dictionary.proofs.Accepted.{full, empty}
use Rattle.dictionary.proofs.Built.{presence_accepted, absence_accepted}
use Rattle.dictionary.proofs.Clashing.{Met}
use Rattle.dictionary.proofs.Shown.{opposed_met}

module _ (H : Bytes → Bytes) (hash_length : (m : Bytes) → length (H m) ≡ 32) (hash_bytes : (m : Bytes) → AreBytes m → AreBytes (H m)) (s key : Bytes) (bytes : AreBytes s) (key_bytes : AreBytes key) where
  -- A FALSE ABSENCE BREAKS THE HASH.
  pub false_absence : (q : Bytes) → is_present H s key ≡ true → check_absence H key (root_of H (rows_of s)) q ≡ done
      → Met H (handle H key) (meeting H 256 (handle H key) (rows_of (proof_of H s key)) (rows_of q))
  false_absence q there h =
      let g = empty H key (root_of H (rows_of s)) q (ap (λ (n : ℕ). eqb n done) h) in
      opposed_met H hash_length key (root_of H (rows_of s)) (proof_of H s key) q
      (presence_accepted H hash_length s key hash_bytes bytes key_bytes (le-ltb entry_limit (length key) g.short) there) h

  -- A FALSE PRESENCE BREAKS THE HASH.
  pub false_presence : (p : Bytes) → is_present H s key ≡ false → check_presence H key (root_of H (rows_of s)) p ≡ done
      → Met H (handle H key) (meeting H 256 (handle H key) (rows_of p) (rows_of (proof_of H s key)))
  false_presence p absent h =
      let f = full H key (root_of H (rows_of s)) p (ap (λ (n : ℕ). eqb n done) h) in
      opposed_met H hash_length key (root_of H (rows_of s)) p (proof_of H s key) h
      (absence_accepted H hash_length s key hash_bytes bytes key_bytes (le-ltb entry_limit (length key) f.short) absent)
