-- What each export of request A6 leaves, whatever it is given: one function for each, by the export's name, made of the outcome of the call that it hands on.
use Rattle.std.specs.Prelude.{◌≡◌, refl, List, ℕ}
use Rattle.std.proofs.Common.{ap, ap₂, ◌∙◌}
use Rattle.lists.specs.Bytes.{Bytes}
use Rattle.hash.specs.Hash.{hash_of}
use Rattle.rules.specs.Calls.{Answer}
use Rattle.rules.proofs.OneOutcome.{One, one_outcome}
use Rattle.numbers.specs.declared.Said.{Said}
use Rattle.numbers.specs.Saying.{answer_of, Says, says}
use Rattle.seals.specs.Calls.{Added, added, mac_call, add_call, check_call}
use Rattle.lotlog.specs.Exports.{Told, told, answered, Left, left, unless_refused, leaves}

unfoldable pub lot_mac : Bytes → Bytes → Bytes → Left
lot_mac key m d = let f = mac_call hash_of key m in leaves f.number f.digest d

-- ---- adding: the number and the answer, and what the key, the chain's value and the output hold then

pub record Sealed : Type 0 where
  pub told : Told
  pub key : Bytes
  pub chain : Bytes
  pub out : Bytes

abbrev pub sealed_left : ℕ → List ℕ → Bytes → Bytes → Bytes → Sealed
sealed_left num a key y out = record { told = told num a; key = key; chain = y; out = out }

abbrev pub sealing : ℕ × List ℕ × Bytes × Bytes × Bytes → Sealed
sealing x = sealed_left x.0 x.1 x.2 x.3 x.4

pub one_sealed : (o : Sealed) → One sealing o
one_sealed o = one_outcome sealing (λ s. (s.told.number, s.told.answer, s.key, s.chain, s.out)) (λ x. refl) o

-- an outcome of the definitions: its answer told, its key and output left, and the chain's value, unless it is a refusal
abbrev pub seals : Added → Bytes → Sealed
seals o y = record { told = answered o.answer; key = o.key; chain = unless_refused o.answer.number o.chain y; out = o.out }

unfoldable pub lot_seal_add : Bytes → Bytes → ℕ → Bytes → Bytes → Sealed
lot_seal_add key y kind text out = seals (add_call hash_of key y kind text out) y

-- Telling what adding answered tells its outcome, with what the call left.
pub tells_added : (new old : Bytes) {n num : ℕ} {a : List ℕ} {s : Said} {r : Answer} {y key out : Bytes} {o : Added} → told n a ≡ answered (answer_of s) → Says s r
    → left num y ≡ leaves n new old → added r new key out ≡ o → sealed_left num a key y out ≡ seals o old
tells_added new old {n} {a = a} {r = r} {key = key} {out} tells says-it leaving met =
    let e : told n a ≡ answered r = tells ∙ ap answered (says says-it) in
    ap₂ {C = Sealed} (λ (t : Told) (z : Bytes). record { told = t; key = key; chain = z; out = out })
    (ap (λ (l : Left). told l.number a) leaving ∙ e)
    (ap (λ (l : Left). l.bytes) leaving ∙ ap (λ (t : Told). unless_refused t.number new old) e)
    ∙ ap (λ (x : Added). seals x old) met

-- ---- checking

unfoldable pub lot_seal_check : Bytes → Bytes → Told
lot_seal_check first log = answered (check_call hash_of first log)
