-- What the contracts of this crate come to, for the hash and the version of this build. One outcome: two answers, and two outputs after a call,
-- that meet a contract are the same. And demand 2, said of what a call was given, answered and left: from a store that passes the audit every
-- proof is made, and the checker accepts it.
use Rattle.std.specs.Prelude.{◌≡◌, ℕ, ◌≤◌, length, take, Result, Ok}
use Rattle.std.proofs.Common.{sym, ap, ap₂, ◌∙◌, lit≤}
use Rattle.lists.specs.Bytes.{Bytes}
use Rattle.hash.specs.Hash.{hash_of, hash_length}
use Rattle.rules.specs.Numbers.{v1, entry_limit}
use Rattle.rules.specs.Paths.{hops, path, path_after}
use Rattle.rules.specs.Messages.{entry_msg, total}
use Rattle.rules.specs.Store.{d_of}
use Rattle.rules.specs.Held as rules
use Rattle.rules.specs.Calls.{Answer, Advanced, Found, HeldFound, gives, written, digest_call, held_call, build_membership_call, build_advancement_call, audit_call, member_call, advance_call}
use Rattle.rules.specs.Calls as calls
use Rattle.rules.proofs.OneOutcome.{One, one_outcome}
use Rattle.rules.proofs.Passed.{passed}
use Rattle.rules.proofs.Built.{taken, membership_built, advancement_built, built_membership, built_advancement}
use Rattle.hash.specs.declared.Digest.{Digest}
use Rattle.held.specs.declared.Held.{Held}
use Rattle.store.specs.Told.{read_told}
use Rattle.store.specs.declared.ReadError.{ReadError}
use Rattle.basis.specs.Told.{held_told}
use Rattle.build.specs.Told.{built_told, built_from, built_back}
use Rattle.build.specs.declared.BuildError.{BuildError}

-- ---- one outcome for each call

-- an answer, and the output after the call
abbrev pub outcome : Result ℕ BuildError × Bytes → calls.Written
outcome x = written (built_told x.0) x.1

one_written : (o : calls.Written) → One outcome o
one_written o = one_outcome outcome (λ w. (built_from w.answer, w.bytes)) (λ x. ap (λ (b : Result ℕ BuildError). (b, x.1)) (built_back x.0)) o

pub membership_one : (s : Bytes) (i n : ℕ) (out : Bytes) → One outcome (build_membership_call hash_of v1 s i n out)
membership_one s i n out = one_written (build_membership_call hash_of v1 s i n out)

pub advancement_one : (s : Bytes) (i n : ℕ) (out : Bytes) → One outcome (build_advancement_call hash_of v1 s i n out)
advancement_one s i n out = one_written (build_advancement_call hash_of v1 s i n out)

-- ---- demand 2, for a store s that passes the audit with c elements; o is the output after the call, and d what `digest_at` reads at n

module _ (s : Bytes) (c : ℕ) (pass : audit_call hash_of v1 s ≡ gives c) (i n : ℕ) (out o : Bytes) where
  -- A MEMBERSHIP PROOF IS MADE of each element up to n, wherever the output has room for it.
  pub membership_made : (r : Result ℕ BuildError) → outcome (r, o) ≡ build_membership_call hash_of v1 s i n out → 1 ≤ i → i ≤ n → n ≤ c → total v1 (path i n) ≤ length out
      → r ≡ Ok (total v1 (path i n))
  membership_made r met lo up hi room =
      let p = passed hash_of v1 s c pass in
      sym (built_back r)
      ∙ ap built_from (ap (λ (w : calls.Written). w.answer) met ∙ membership_built hash_of v1 s p.sound i n up (rw p.counted hi) out lo room)

  -- THE CHECKER ACCEPTS IT, with the path's hops, for any entry whose digest is the stored d.
  pub membership_accepted : (size : ℕ) → outcome (Ok size, o) ≡ build_membership_call hash_of v1 s i n out → (d : Result Digest ReadError) → read_told d ≡ digest_call hash_of v1 s n
      → (e : Bytes) → length e ≤ entry_limit → d_of v1 s i ≡ hash_of (entry_msg e)
      → member_call hash_of v1 e i n (read_told d).digest (take size o) ≡ gives (length (hops i n))
  membership_accepted size met d read e short stored =
      ap₂ {A = Bytes} {B = Bytes} {C = Answer} (λ t p. member_call hash_of v1 e i n t p) (ap (λ (f : Found). f.digest) read) (ap taken met)
      ∙ built_membership hash_of hash_length v1 s c pass i n e out short stored (sym (ap (λ (w : calls.Written). w.answer.number) met))

  -- AN ADVANCEMENT PROOF IS MADE from each i up to n, wherever the output has room for it.
  pub advancement_made : (r : Result ℕ BuildError) → outcome (r, o) ≡ build_advancement_call hash_of v1 s i n out → i ≤ n → n ≤ c → total v1 (path_after i n) ≤ length out
      → r ≡ Ok (total v1 (path_after i n))
  advancement_made r met up hi room =
      let p = passed hash_of v1 s c pass in
      sym (built_back r)
      ∙ ap built_from (ap (λ (w : calls.Written). w.answer) met ∙ advancement_built hash_of v1 s p.sound i n up (rw p.counted hi) out room)

  -- THE STATE THAT `held_at` GIVES AT i ACCEPTS IT, with the path's hops, and the state that `held_at` gives at n comes out.
  pub advancement_accepted : (size : ℕ) → outcome (Ok size, o) ≡ build_advancement_call hash_of v1 s i n out → (d : Result Digest ReadError) → read_told d ≡ digest_call hash_of v1 s n
      → (h h' : Result Held ReadError) → held_told h ≡ held_call hash_of v1 s i → held_told h' ≡ held_call hash_of v1 s n
      → advance_call hash_of v1 (held_told h).held n (read_told d).digest (take size o) ≡ record { answer = gives (length (hops i n)); held = (held_told h').held }
  advancement_accepted size met d read h h' eh eh' =
      let held_is : (x : Result Held ReadError) (j : ℕ) → held_told x ≡ held_call hash_of v1 s j → (held_told x).held ≡ (held_call hash_of v1 s j).held = λ x j e. ap (λ (f : HeldFound). f.held) e in
      ap (λ (x : rules.Held). advance_call hash_of v1 x n (read_told d).digest (take size o)) (held_is h i eh)
      ∙ ap₂ {A = Bytes} {B = Bytes} {C = Advanced} (λ t p. advance_call hash_of v1 (held_call hash_of v1 s i).held n t p) (ap (λ (f : Found). f.digest) read) (ap taken met)
      ∙ built_advancement hash_of hash_length v1 s c pass (lit≤ tt) i n out (sym (ap (λ (w : calls.Written). w.answer.number) met))
      ∙ ap (λ (x : rules.Held). record { answer = gives (length (hops i n)); held = x }) (sym (held_is h' n eh'))
