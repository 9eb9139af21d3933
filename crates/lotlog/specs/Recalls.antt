-- What each export of request A1 leaves, whatever it is given: one function for each, by the export's name, made of the outcome of the call that it hands on.
use Rattle.std.specs.Prelude.{◌≡◌, [], ◌∷◌, ℕ}
use Rattle.std.proofs.Common.{ap, ◌∙◌}
use Rattle.lists.specs.Bytes.{Bytes}
use Rattle.hash.specs.Hash.{hash_of}
use Rattle.rules.specs.Refusals.{done}
use Rattle.dictionary.specs.Calls.{Finding, clashing, zeroed, denied, Formed, formed, handle_call, root_call, presence_call, absence_call, check_presence, check_absence, clash_call}
use Rattle.lotlog.specs.Exports.{Told, told, Left, leaves, Wrote, spoken, Showed}

unfoldable pub lot_handle : Bytes → Bytes → Left
lot_handle key d = let f = handle_call hash_of key in leaves f.number f.digest d

unfoldable pub lot_trie_root : Bytes → Bytes → Left
lot_trie_root s d = let f = root_call hash_of s in leaves f.number f.digest d

unfoldable pub lot_prove_presence : Bytes → Bytes → Bytes → Wrote
lot_prove_presence s key out = spoken (presence_call hash_of s key out)

unfoldable pub lot_prove_absence : Bytes → Bytes → Bytes → Wrote
lot_prove_absence s key out = spoken (absence_call hash_of s key out)

-- a check has no numbers beside its own: what it leaves is the number that it returns
unfoldable pub lot_check_presence : Bytes → Bytes → Bytes → ℕ
lot_check_presence key root p = check_presence hash_of key root p

unfoldable pub lot_check_absence : Bytes → Bytes → Bytes → ℕ
lot_check_absence key root p = check_absence hash_of key root p

-- 0 and the two lengths, or 1 and the one; with a refusal, the proof that is not accepted
abbrev pub clashed : Finding → Told
clashed (clashing n m) = told done (0 ∷ n ∷ m ∷ [])
clashed (zeroed n) = told done (1 ∷ n ∷ 0 ∷ [])
clashed (denied num which) = told num (which ∷ 0 ∷ 0 ∷ [])

-- an outcome of the definitions: what it finds told, its buffers left
abbrev pub forms : Formed → Showed
forms o = record { told = clashed o.finding; first = o.first; second = o.second }

unfoldable pub lot_trie_clash : Bytes → Bytes → Bytes → Bytes → Bytes → Bytes → Showed
lot_trie_clash key root p q b1 b2 = forms (clash_call hash_of key root p q b1 b2)

-- Telling what the routine found tells its outcome, with what the call left in the buffers.
pub tells_clash : {t : Told} {f : Finding} {b1 b2 : Bytes} {o : Formed} → t ≡ clashed f → formed f b1 b2 ≡ o → record { told = t; first = b1; second = b2 } ≡ forms o
tells_clash {b1 = b1} {b2} tells met = ap {B = Showed} (λ (x : Told). record { told = x; first = b1; second = b2 }) tells ∙ ap forms met
