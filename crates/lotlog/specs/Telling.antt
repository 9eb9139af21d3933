-- How telling what a call answered tells the outcome.
use Rattle.std.specs.Prelude.{◌≡◌, ℕ}
use Rattle.std.proofs.Common.{ap, ap₂, ◌∙◌}
use Rattle.lists.specs.Bytes.{Bytes}
use Rattle.rules.specs.Held.{Held}
use Rattle.rules.specs.Calls.{Answer, Written, written, HeldFound, held_found, Advanced, Finding, Disputed, disputed}
use Rattle.numbers.specs.declared.Said.{Said}
use Rattle.numbers.specs.Saying.{answer_of, Says, says}
use Rattle.wire.specs.Wire.{wire_of}
use Rattle.lotlog.specs.Exports.{Told, answered, Left, left, unless_refused, leaves, Wrote, spoken, Showed, finding, shows}
use Rattle.lotlog.specs.Outcomes.{advances}

module _ {t : Told} {s : Said} {a : Answer} (tells : t ≡ answered (answer_of s)) (e : Says s a) where
  -- Telling what a call answered tells the outcome of the call.
  pub tells_answer : {o : Answer} → a ≡ o → t ≡ answered o
  tells_answer met = tells ∙ ap answered (says e ∙ met)

  -- And with it the bytes that the call left are left.
  pub tells_written : {b : Bytes} {o : Written} → written a b ≡ o → record { told = t; bytes = b } ≡ spoken o
  tells_written {b} met = ap {B = Wrote} (λ (x : Told). record { told = x; bytes = b }) (tells ∙ ap answered (says e)) ∙ ap spoken met

  -- And with it the bytes of the state that the check of the state k, read from the old bytes, hands back.
  pub tells_advanced : (old : Bytes) (check : Held → Advanced) {num : ℕ} {b : Bytes} {h k k' : Held} → left num b ≡ leaves s.number (wire_of h) old
      → record { answer = a; held = h } ≡ check k → k ≡ k' → record { told = t; bytes = b } ≡ advances (check k') old
  tells_advanced old check {h = h} l met read =
      ap₂ {C = Wrote} (λ (x : Told) (y : Bytes). record { told = x; bytes = y })
      (tells ∙ ap answered (says e)) (ap (λ (x : Left). x.bytes) l ∙ ap (λ (n : ℕ). unless_refused n (wire_of h) old) e.number)
      ∙ ap (λ (x : Advanced). advances x old) (met ∙ ap check read)

-- Telling what a dispute found tells its outcome, with what the call left in the buffers.
pub tells_found : {t : Told} {f : Finding} {b1 b2 : Bytes} {o : Disputed} → t ≡ finding f → disputed f b1 b2 ≡ o → record { told = t; first = b1; second = b2 } ≡ shows o
tells_found {b1 = b1} {b2} tells met = ap {B = Showed} (λ (x : Told). record { told = x; first = b1; second = b2 }) tells ∙ ap shows met

-- Leaving the bytes of the state that a call found, unless its number is a refusal, leaves its outcome.
pub leaves_held : (old : Bytes) {l : Left} {n m : ℕ} {h : Held} {f : HeldFound} → l ≡ leaves n (wire_of h) old → n ≡ m → held_found m h ≡ f
    → l ≡ leaves f.number (wire_of f.held) old
leaves_held old {h = h} left told met = left ∙ ap (λ (k : ℕ). leaves k (wire_of h) old) told ∙ ap (λ (f : HeldFound). leaves f.number (wire_of f.held) old) met
