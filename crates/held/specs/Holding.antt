-- The code's state as the state that the rules speak of, and back: so an equation of what a state holds pins the state.
use Rattle.std.specs.Prelude.{◌≡◌, refl, List, [], ◌∷◌, map}
use Rattle.std.proofs.Common.{ap}
use Rattle.lists.specs.Bytes.{Bytes}
use Rattle.hash.specs.declared.Digest.{Digest}
use Rattle.rules.specs.Held as rules
use Rattle.rules.proofs.OneOutcome.{One, one_outcome}
use Rattle.held.specs.declared.Held.{Held}

abbrev pub bytes_of : Digest → Bytes
bytes_of d = d.bytes

abbrev pub rows_of : List Digest → List Bytes
rows_of rows = map bytes_of rows

-- what a state holds
abbrev pub holds : Held → rules.Held
holds h = record { log = h.log; count = h.count.0; digest = h.digest.bytes; rows = rows_of h.rows }

-- ---- there and back

abbrev pub digest_from : Bytes → Digest
digest_from b = record { bytes = b }

abbrev pub held_from : rules.Held → Held
held_from h = record { log = h.log; count = record { 0 = h.count }; digest = digest_from h.digest; rows = map digest_from h.rows }

rows_back : (rows : List Digest) → map digest_from (rows_of rows) ≡ rows
rows_back [] = refl
rows_back (d ∷ ds) = ap (λ (l : List Digest). d ∷ l) (rows_back ds)

pub held_back : (h : Held) → held_from (holds h) ≡ h
held_back h = ap (λ (l : List Digest). record { log = h.log; count = h.count; digest = h.digest; rows = l }) (rows_back h.rows)

-- ONE STATE: two states that hold the same are the same.
pub held_one : (o : rules.Held) → One holds o
held_one o = one_outcome holds held_from held_back o
