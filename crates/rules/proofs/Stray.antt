-- A STATE BYTE THAT IS NEITHER OPEN NOR CLOSED, on every call that reads a store: "any other is damage", and 02, A2: "state 255 must mean open
-- and 0 is damage". One such byte up to the capacity is enough, whatever else the store holds.
use Rattle.std.specs.Prelude.{◌≡◌, refl, ◌≢◌, Bool, true, false, ℕ, ◌-◌, ◌<◌}
use Rattle.std.proofs.Common.{zero-le, arith}
use Rattle.std.proofs.Math.Decide.{dec_lt}
use Rattle.lists.specs.Bytes.{Bytes, zeros}
use Rattle.rules.specs.Numbers.{Version}
use Rattle.rules.specs.Refusals.{store_damaged}
use Rattle.rules.specs.Store.{open_byte, closed_byte, state_of, capacity, count_of, damaged}
use Rattle.rules.specs.Held.{held_zeros}
use Rattle.rules.specs.Calls.{refuses, written, found, held_found, count_call, append_call, digest_call, held_call, build_membership_call, build_advancement_call, audit_call}
use Rattle.rules.proofs.Damage.{ordered}
use Rattle.rules.proofs.States.{closed_below, open_among}
use Rattle.rules.proofs.Answers.{count_damaged, append_damaged, digest_damaged, held_damaged, build_damaged, audit_damaged}

-- every call that reads the store refuses it with 1 and writes nothing
pub record Refused (H : Bytes → Bytes) (v : Version) (s : Bytes) : Type 0 where
  pub count : count_call v s ≡ refuses store_damaged
  pub appends : (front e : Bytes) (stop : ℕ) → append_call H v front s e stop ≡ written (refuses store_damaged) s
  pub digests : (j : ℕ) → digest_call H v s j ≡ found store_damaged zeros
  pub held : (j : ℕ) → held_call H v s j ≡ held_found store_damaged (held_zeros v)
  pub memberships : (i n : ℕ) (out : Bytes) → build_membership_call H v s i n out ≡ written (refuses store_damaged) out
  pub advancements : (i n : ℕ) (out : Bytes) → build_advancement_call H v s i n out ≡ written (refuses store_damaged) out
  pub audit : audit_call H v s ≡ refuses store_damaged

module _ (v : Version) (s : Bytes) (i : ℕ) (within : i < capacity v s) where
  stray_damaged : state_of v s i ≢ open_byte → state_of v s i ≢ closed_byte → damaged v s ≡ true
  stray_damaged not_open not_closed_lem = go (damaged v s) refl (dec_lt i (count_of v s))
    where
      go : (b : Bool) → damaged v s ≡ b → Dec (i < count_of v s) → b ≡ true
      go true d h = refl
      go false d (yes h) = absurd (not_closed_lem (closed_below v s (capacity v s) 0 i zero-le h))
      go false d (no h) = absurd (not_open (open_among v s (capacity v s - count_of v s) (count_of v s) i (ordered v s d).rest_open_lem (omega arith) (omega arith)))

  -- WHAT IS NEITHER OPEN NOR CLOSED IS DAMAGE, to every call that reads.
  pub stray_refused : (H : Bytes → Bytes) → state_of v s i ≢ open_byte → state_of v s i ≢ closed_byte → Refused H v s
  stray_refused H not_open not_closed_lem = let d = stray_damaged not_open not_closed_lem in record {
    count = count_damaged v s d;
    appends = λ front e stop. append_damaged H v front s e stop d;
    digests = λ j. digest_damaged H v s j d;
    held = λ j. held_damaged H v s j d;
    memberships = λ i n out. build_damaged v s _ _ _ out d;
    advancements = λ i n out. build_damaged v s _ _ _ out d;
    audit = audit_damaged H v s d;
  }

  -- 0 IS DAMAGE: so a store whose open records were marked as 01 had it is refused.
  pub zero_refused : (H : Bytes → Bytes) → state_of v s i ≡ 0 → Refused H v s
  zero_refused H e = stray_refused H (λ q. omega arith) (λ q. omega arith)
