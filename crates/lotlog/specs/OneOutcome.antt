-- ONE OUTCOME, CALL BY CALL: any two outcomes that the statement of a public call allows coincide. This file lists every public call of the library,
-- and every export. A contract says that the answer, and what lent memory holds after the call, told in the terms of documents 01 and 02, are one function of what
-- the call was given; `One told o` says that this leaves one answer. Each line cites the one law of rules, or the crate's own citation of it; that of
-- `place_differing_at`, whose contract says in a second clause that a part has bytes, cites what its crate says of the two together.
use Rattle.std.specs.Prelude.{◌≡◌, [], ◌++◌, ℕ, ◌<◌, ⊤, Result, Option, IfSome}
use Rattle.std.proofs.Common.{sym, ap, ap₂, ◌∙◌}
use Rattle.lists.specs.Bytes.{Bytes}
use Rattle.sha256.specs.Stream.{begun, taken, finished, hashed}
use Rattle.sha256.specs.declared.HashState.{HashState}
use Rattle.hash.specs.Hash.{hash_of}
use Rattle.hash.specs.declared.Digest.{Digest}
use Rattle.path.specs.declared.Length.{Length}
use Rattle.rules.specs.Numbers.{v1}
use Rattle.rules.specs.Held.{held_start}
use Rattle.rules.specs.Checking.{member}
use Rattle.rules.specs.Dispute.{differing}
use Rattle.rules.specs.Calls.{written, start_call, count_call, append_call, digest_call, held_call, build_membership_call, build_advancement_call, audit_call, advance_call, Disputed, dispute_call}
use Rattle.rules.proofs.OneOutcome.{One, OneOf, one_of}
use Rattle.store.specs.declared.StoreTooShort.{StoreTooShort}
use Rattle.store.specs.declared.AppendError.{AppendError}
use Rattle.store.specs.Told.{start_told, count_told, append_told, read_told}
use Rattle.store.specs.Promises as store
use Rattle.audit.specs.Told.{audit_told}
use Rattle.audit.specs.Promises as audit
use Rattle.held.specs.declared.Held.{Held}
use Rattle.held.specs.Holding.{holds, held_one}
use Rattle.basis.specs.Told.{held_told}
use Rattle.basis.specs.Told as basis
use Rattle.file_form.specs.Calls.{write_call, read_call}
use Rattle.saved.specs.Told.{file_told}
use Rattle.saved.specs.Promises as saved
use Rattle.build.specs.declared.BuildError.{BuildError}
use Rattle.build.specs.Told.{built_told}
use Rattle.build.specs.Promises as build
use Rattle.membership.specs.Verdicts.{verdict_of, one_verdict}
use Rattle.advancement.specs.Advancing.{outcome_of}
use Rattle.advancement.specs.Advances as advancement
use Rattle.place.specs.Places.{part_is, part_one, cut}
use Rattle.place.specs.declared.Part.{Part}
use Rattle.dispute.specs.Answers.{Answer, outcome, one_answer}
use Rattle.dictionary.specs.Calls.{handle_call, root_call, presence_call, absence_call, check_presence, check_absence, clash_call}
use Rattle.handles.specs.Told.{handle_told}
use Rattle.handles.specs.Told as handles
use Rattle.trie.specs.Told.{root_told}
use Rattle.trie.specs.Told as trie
use Rattle.prove.specs.Promises as prove
use Rattle.lookup.specs.Told.{verdict_number}
use Rattle.lookup.specs.Told as lookup
use Rattle.clash.specs.Promises as clash
use Rattle.seals.specs.Calls.{mac_call, add_call, check_call}
use Rattle.hmac.specs.Told.{coded_told}
use Rattle.hmac.specs.Promises as hmac
use Rattle.sealed.specs.Told.{left_told, checked_told}
use Rattle.sealed.specs.Promises as sealed
use Rattle.copies.specs.Calls.{compare_call}
use Rattle.compare.specs.Told.{compared_told}
use Rattle.compare.proofs.Promises as compare
use Rattle.lotlog.specs.Exports.{telling, one_told, leaving, one_left, writing, one_wrote, showing, one_showed}
use Rattle.lotlog.specs.Outcomes.{lot_hash, lot_start, lot_count, lot_append, lot_digest_at, lot_audit, lot_held_start, lot_held_at, lot_held_write, lot_held_read, lot_build_membership, lot_build_advancement, lot_check_membership, lot_check_advancement, lot_dispute, lot_differing}
use Rattle.lotlog.specs.Recalls.{lot_handle, lot_trie_root, lot_prove_presence, lot_prove_absence, lot_check_presence, lot_check_absence, lot_trie_clash}
use Rattle.lotlog.specs.Sealing.{sealing, one_sealed, lot_mac, lot_seal_add, lot_seal_check}
use Rattle.lotlog.specs.Comparing.{lot_compare}

-- where a crate says that telling loses nothing, answers that are told as one outcome are one
lossless : {A B : Type 0} (told : A → B) → ((x y : A) → told x ≡ told y → x ≡ y) → (o : B) → One told o
lossless told same o x y ex ey = same x y (ex ∙ sym ey)

-- ---- sha256

pub sha256_hash : (m : Bytes) → OneOf (hashed m)
sha256_hash m = one_of (hashed m)

pub sha256_joined : (a b : Bytes) → OneOf (hashed (a ++ b))
sha256_joined a b = one_of (hashed (a ++ b))

pub hash_state_begin : OneOf begun
hash_state_begin = one_of begun

pub hash_state_take : (s : HashState) (b : Bytes) → OneOf (taken s b)
hash_state_take s b = one_of (taken s b)

pub hash_state_finish : (s : HashState) → OneOf (finished s)
hash_state_finish s = one_of (finished s)

-- ---- store

pub store_start : (s : Bytes) (log : ℕ) → One (λ (x : Result ⊤ StoreTooShort × Bytes). written (start_told x.0) x.1) (start_call v1 s log)
store_start = store.start_one

pub store_count : (s : Bytes) → One count_told (count_call v1 s)
store_count = store.count_one

pub store_append : (s e : Bytes) (stop : ℕ) → One (λ (x : Result Length AppendError × Bytes). written (append_told x.0) x.1) (append_call hash_of v1 [] s e stop)
store_append = store.append_one

pub store_digest_at : (s : Bytes) (at : ℕ) → One read_told (digest_call hash_of v1 s at)
store_digest_at = store.digest_one

-- ---- audit

pub audit_audit : (s : Bytes) → One audit_told (audit_call hash_of v1 s)
audit_audit = audit.audit_one

-- ---- held

pub held_start_lem : (log : ℕ) → One holds (held_start hash_of v1 log)
held_start_lem log = held_one (held_start hash_of v1 log)

-- ---- basis

pub basis_held_at : (s : Bytes) (at : ℕ) → One held_told (held_call hash_of v1 s at)
basis_held_at = basis.held_one

-- ---- saved

pub saved_write : (h : Held) (out : Bytes) → One saved.outcome (write_call hash_of v1 (holds h) out)
saved_write = saved.write_one

pub saved_read : (f : Bytes) → One file_told (read_call hash_of v1 f)
saved_read = saved.read_one

-- ---- build

pub build_membership : (s : Bytes) (i n : ℕ) (out : Bytes) → One (λ (x : Result ℕ BuildError × Bytes). written (built_told x.0) x.1) (build_membership_call hash_of v1 s i n out)
build_membership = build.membership_one

pub build_advancement : (s : Bytes) (i n : ℕ) (out : Bytes) → One (λ (x : Result ℕ BuildError × Bytes). written (built_told x.0) x.1) (build_advancement_call hash_of v1 s i n out)
build_advancement = build.advancement_one

-- ---- membership and advancement

pub membership_check_membership : (e : Bytes) (i n : ℕ) (D p : Bytes) → One verdict_of (member hash_of v1 e i n D p)
membership_check_membership e i n D p = lossless verdict_of one_verdict (member hash_of v1 e i n D p)

pub advancement_check_advancement : (h : Held) (n : Length) (D : Digest) (p : Bytes) → One outcome_of (advance_call hash_of v1 (holds h) n.0 D.bytes p)
advancement_check_advancement = advancement.advanced_one

-- ---- place

-- by both clauses: `part_is` tells none as it would tell a part of no bytes, which the other clause rules out
pub place_differing_at : (p q : Bytes) (i n : ℕ) (x y : Option Part) → IfSome x (λ s. 0 < s.size) → IfSome y (λ s. 0 < s.size) →
    part_is x ≡ differing v1 i n p q → part_is y ≡ differing v1 i n p q → x ≡ y
place_differing_at p q i n x y hx hy ex ey = part_one x y hx hy (ex ∙ sym ey)

pub place_differing : (p q : Bytes) (i n : ℕ) → OneOf (cut (differing v1 i n p q) q)
place_differing p q i n = one_of (cut (differing v1 i n p q) q)

-- ---- dispute

pub dispute_dispute : (e1 p1 e2 p2 : Bytes) (i n : ℕ) (D b1 b2 : Bytes)
    → One (λ (x : Answer × Bytes × Bytes). outcome x.0 x.1 x.2) (dispute_call hash_of v1 e1 p1 e2 p2 i n D b1 b2)
dispute_dispute e1 p1 e2 p2 i n D b1 b2 =
    lossless (λ (x : Answer × Bytes × Bytes). outcome x.0 x.1 x.2)
    (λ x y e. ap₂ {C = Answer × Bytes × Bytes} (λ (a : Answer) (b : Bytes × Bytes). (a, b.0, b.1))
    (one_answer x.0 y.0 (ap (λ (o : Disputed). o.finding) e)) (ap (λ (o : Disputed). (o.first, o.second)) e))
    (dispute_call hash_of v1 e1 p1 e2 p2 i n D b1 b2)

-- ---- the dictionary: handles, trie, prove, lookup, clash

pub handles_handle_of : (key : Bytes) → One handle_told (handle_call hash_of key)
handles_handle_of = handles.handle_one

pub trie_root : (s : Bytes) → One root_told (root_call hash_of s)
trie_root = trie.root_one

pub prove_presence : (s key out : Bytes) → One prove.outcome (presence_call hash_of s key out)
prove_presence = prove.presence_one

pub prove_absence : (s key out : Bytes) → One prove.outcome (absence_call hash_of s key out)
prove_absence = prove.absence_one

pub lookup_check_presence : (key root p : Bytes) → One verdict_number (check_presence hash_of key root p)
lookup_check_presence = lookup.check_presence_one

pub lookup_check_absence : (key root p : Bytes) → One verdict_number (check_absence hash_of key root p)
lookup_check_absence = lookup.check_absence_one

pub clash_clash : (key root p q b1 b2 : Bytes) → One clash.outcome (clash_call hash_of key root p q b1 b2)
clash_clash = clash.clash_one

-- ---- hmac and sealed

pub hmac_mac : (key m : Bytes) → One coded_told (mac_call hash_of key m)
hmac_mac = hmac.mac_one

pub sealed_add : (key y : Bytes) (kind : ℕ) (text out : Bytes) → One left_told (add_call hash_of key y kind text out)
sealed_add = sealed.add-one

pub sealed_check : (first log : Bytes) → One checked_told (check_call hash_of first log)
sealed_check = sealed.check_one

-- ---- compare

pub compare_compare : (s t : Bytes) → One compared_told (compare_call v1 s t)
compare_compare = compare.compare_one

-- ---- the exports: the number returned, the numbers of `answer`, and lent memory

pub lot_hash_lem : (m d : Bytes) → One leaving (lot_hash m d)
lot_hash_lem m d = one_left (lot_hash m d)

pub lot_start_lem : (s : Bytes) (log : ℕ) → One leaving (lot_start s log)
lot_start_lem s log = one_left (lot_start s log)

pub lot_count_lem : (s : Bytes) → One telling (lot_count s)
lot_count_lem s = one_told (lot_count s)

pub lot_append_lem : (s e : Bytes) (stop : ℕ) → One writing (lot_append s e stop)
lot_append_lem s e stop = one_wrote (lot_append s e stop)

pub lot_digest_at_lem : (s : Bytes) (at : ℕ) (d : Bytes) → One leaving (lot_digest_at s at d)
lot_digest_at_lem s at d = one_left (lot_digest_at s at d)

pub lot_held_at_lem : (s : Bytes) (at : ℕ) (b : Bytes) → One leaving (lot_held_at s at b)
lot_held_at_lem s at b = one_left (lot_held_at s at b)

pub lot_held_start_lem : (log : ℕ) → One leaving (lot_held_start log)
lot_held_start_lem log = one_left (lot_held_start log)

pub lot_held_write_lem : (b out : Bytes) → One writing (lot_held_write b out)
lot_held_write_lem b out = one_wrote (lot_held_write b out)

pub lot_held_read_lem : (f b : Bytes) → One leaving (lot_held_read f b)
lot_held_read_lem f b = one_left (lot_held_read f b)

pub lot_build_membership_lem : (s : Bytes) (i n : ℕ) (out : Bytes) → One writing (lot_build_membership s i n out)
lot_build_membership_lem s i n out = one_wrote (lot_build_membership s i n out)

pub lot_build_advancement_lem : (s : Bytes) (i n : ℕ) (out : Bytes) → One writing (lot_build_advancement s i n out)
lot_build_advancement_lem s i n out = one_wrote (lot_build_advancement s i n out)

pub lot_check_membership_lem : (e : Bytes) (i n : ℕ) (D p : Bytes) → One telling (lot_check_membership e i n D p)
lot_check_membership_lem e i n D p = one_told (lot_check_membership e i n D p)

pub lot_check_advancement_lem : (b : Bytes) (n : ℕ) (D p : Bytes) → One writing (lot_check_advancement b n D p)
lot_check_advancement_lem b n D p = one_wrote (lot_check_advancement b n D p)

pub lot_audit_lem : (s : Bytes) → One telling (lot_audit s)
lot_audit_lem s = one_told (lot_audit s)

pub lot_dispute_lem : (e1 p1 e2 p2 : Bytes) (i n : ℕ) (D b1 b2 : Bytes) → One showing (lot_dispute e1 p1 e2 p2 i n D b1 b2)
lot_dispute_lem e1 p1 e2 p2 i n D b1 b2 = one_showed (lot_dispute e1 p1 e2 p2 i n D b1 b2)

pub lot_differing_lem : (p q : Bytes) (i n : ℕ) → One telling (lot_differing p q i n)
lot_differing_lem p q i n = one_told (lot_differing p q i n)

pub lot_handle_lem : (key d : Bytes) → One leaving (lot_handle key d)
lot_handle_lem key d = one_left (lot_handle key d)

pub lot_trie_root_lem : (s d : Bytes) → One leaving (lot_trie_root s d)
lot_trie_root_lem s d = one_left (lot_trie_root s d)

pub lot_prove_presence_lem : (s key out : Bytes) → One writing (lot_prove_presence s key out)
lot_prove_presence_lem s key out = one_wrote (lot_prove_presence s key out)

pub lot_prove_absence_lem : (s key out : Bytes) → One writing (lot_prove_absence s key out)
lot_prove_absence_lem s key out = one_wrote (lot_prove_absence s key out)

pub lot_check_presence_lem : (key root p : Bytes) → OneOf (lot_check_presence key root p)
lot_check_presence_lem key root p = one_of (lot_check_presence key root p)

pub lot_check_absence_lem : (key root p : Bytes) → OneOf (lot_check_absence key root p)
lot_check_absence_lem key root p = one_of (lot_check_absence key root p)

pub lot_trie_clash_lem : (key root p q b1 b2 : Bytes) → One showing (lot_trie_clash key root p q b1 b2)
lot_trie_clash_lem key root p q b1 b2 = one_showed (lot_trie_clash key root p q b1 b2)

pub lot_mac_lem : (key m d : Bytes) → One leaving (lot_mac key m d)
lot_mac_lem key m d = one_left (lot_mac key m d)

pub lot_seal_add_lem : (key y : Bytes) (kind : ℕ) (text out : Bytes) → One sealing (lot_seal_add key y kind text out)
lot_seal_add_lem key y kind text out = one_sealed (lot_seal_add key y kind text out)

pub lot_seal_check_lem : (first log : Bytes) → One telling (lot_seal_check first log)
lot_seal_check_lem first log = one_told (lot_seal_check first log)

pub lot_compare_lem : (s t : Bytes) → One telling (lot_compare s t)
lot_compare_lem s t = one_told (lot_compare s t)
