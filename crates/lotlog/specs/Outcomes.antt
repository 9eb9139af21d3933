-- What each export leaves, whatever it is given: one function for each, by the export's name, made of the outcome of the call that it hands on.
use Rattle.std.specs.Prelude.{[], ◌∷◌, ℕ}
use Rattle.lists.specs.Bytes.{Bytes}
use Rattle.sha256.specs.Stream.{hashed, number_of, digest_of}
use Rattle.hash.specs.Hash.{hash_of}
use Rattle.rules.specs.Numbers.{v1}
use Rattle.rules.specs.Refusals.{done}
use Rattle.rules.specs.Held.{held_start}
use Rattle.rules.specs.Dispute.{differing}
use Rattle.rules.specs.Calls.{start_call, count_call, append_call, digest_call, held_call, build_membership_call, build_advancement_call, audit_call, member_call, Advanced, advance_call, dispute_call}
use Rattle.wire.specs.Wire.{wire_of, held_in}
use Rattle.file_form.specs.Calls.{write_call, read_call}
use Rattle.lotlog.specs.Exports.{Told, told, answered, Left, left, unless_refused, leaves, Wrote, spoken, Showed, shows}

-- ---- hashing

unfoldable pub lot_hash : Bytes → Bytes → Left
lot_hash m d = let h = hashed m in leaves (number_of h) (digest_of h) d

-- ---- the store

unfoldable pub lot_start : Bytes → ℕ → Left
lot_start s log = let w = start_call v1 s log in left w.answer.number w.bytes

unfoldable pub lot_count : Bytes → Told
lot_count s = answered (count_call v1 s)

unfoldable pub lot_append : Bytes → Bytes → ℕ → Wrote
lot_append s e stop = spoken (append_call hash_of v1 [] s e stop)

unfoldable pub lot_digest_at : Bytes → ℕ → Bytes → Left
lot_digest_at s at d = let f = digest_call hash_of v1 s at in leaves f.number f.digest d

unfoldable pub lot_audit : Bytes → Told
lot_audit s = answered (audit_call hash_of v1 s)

-- ---- held states

unfoldable pub lot_held_start : ℕ → Left
lot_held_start log = left done (wire_of (held_start hash_of v1 log))

unfoldable pub lot_held_at : Bytes → ℕ → Bytes → Left
lot_held_at s at b = let f = held_call hash_of v1 s at in leaves f.number (wire_of f.held) b

-- the file of the state that stands in the bytes, and the bytes of the state that stands in a file
unfoldable pub lot_held_write : Bytes → Bytes → Wrote
lot_held_write b out = spoken (write_call hash_of v1 (held_in b) out)

unfoldable pub lot_held_read : Bytes → Bytes → Left
lot_held_read f b = let r = read_call hash_of v1 f in leaves r.number (wire_of r.held) b

-- ---- building proofs

unfoldable pub lot_build_membership : Bytes → ℕ → ℕ → Bytes → Wrote
lot_build_membership s i n out = spoken (build_membership_call hash_of v1 s i n out)

unfoldable pub lot_build_advancement : Bytes → ℕ → ℕ → Bytes → Wrote
lot_build_advancement s i n out = spoken (build_advancement_call hash_of v1 s i n out)

-- ---- checking them

unfoldable pub lot_check_membership : Bytes → ℕ → ℕ → Bytes → Bytes → Told
lot_check_membership e i n D p = answered (member_call hash_of v1 e i n D p)

-- an outcome of the rules: its answer told, and the bytes of the state held after it, unless it is a refusal
abbrev pub advances : Advanced → Bytes → Wrote
advances o b = record { told = answered o.answer; bytes = unless_refused o.answer.number (wire_of o.held) b }

unfoldable pub lot_check_advancement : Bytes → ℕ → Bytes → Bytes → Wrote
lot_check_advancement b n D p = advances (advance_call hash_of v1 (held_in b) n D p) b

-- ---- the dispute

unfoldable pub lot_dispute : Bytes → Bytes → Bytes → Bytes → ℕ → ℕ → Bytes → Bytes → Bytes → Showed
lot_dispute e1 p1 e2 p2 i n D b1 b2 = shows (dispute_call hash_of v1 e1 p1 e2 p2 i n D b1 b2)

unfoldable pub lot_differing : Bytes → Bytes → ℕ → ℕ → Told
lot_differing p q i n = let x = differing v1 i n p q in told done (x.from ∷ x.size ∷ 0 ∷ [])
