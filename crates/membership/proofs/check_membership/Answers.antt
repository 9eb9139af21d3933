-- `membership::check_membership` meets its contract: each return fixes the tests of the definition up to it.
use mathlib.Core.Path.{◌≡◌, refl, sym, ap, ap₂, ◌∙◌}
use mathlib.Core.Bool.{Bool, true}
use Prim.Native.Nat.{ℕ, ◌+◌, ◌≤◌}
use native.Mathlib.Omega.{arith}
use lib.Dec.{leb, eqb}
use lib.ListN.{length, take, drop}
use borrow.Author.Tests.{eq-eqb, ne_eqb, le-leb, lt-leb}
use Rattle.lists.specs.Bytes.{Bytes, same}
use Rattle.hash.specs.Hash.{hash_of}
use Rattle.rules.specs.Numbers.{v1, entry_limit}
use Rattle.rules.specs.Paths.{hops, path}
use Rattle.rules.specs.Messages.{entry_msg, element_msg, size, total, row, part}
use Rattle.rules.specs.Refusals.{too_long, no_such_number, wrong_length, other_entry}
use Rattle.rules.specs.Checking.{Verdict as Judged, must, between, digest_at, walk, member}
use Rattle.rules.proofs.Verdicts.{between_true}
use Rattle.rules.proofs.Bounds.{total_first}
use Rattle.rules.proofs.Walking.{row_at, member_is}
use Rattle.messages.specs.Parts.{part_length, size_short}
use Rattle.membership.specs.Verdicts.{verdict_of}
use Rattle.membership.proofs.check_membership.Goals as goal
use Rattle.membership.proofs.check_membership.Goals.{After-component_at-first, After-membership_len, After-row_is, Else-entry-gt-ENTRY_LIMIT, Else-not-asked, Else-proof-membership_len, Start}

-- ---- what each passed test says, at the place behind it

short : (c : Else-entry-gt-ENTRY_LIMIT) → leb (length c.args.entry.now) entry_limit ≡ true
short c = le-leb _ entry_limit c.if-entry-gt-ENTRY_LIMIT.false

asked : (c : Else-not-asked) → let a = c.args in between v1 a.i.0 a.n.0 ≡ true
asked c = sym c.asked.ensures ∙ c.if-not-asked.false

counted : (c : After-membership_len) → let a = c.args in c.membership_len.result ≡ total v1 (path a.i.0 a.n.0)
counted c = rw (asked (goal.at.After-membership_len c).Else-not-asked) at c.membership_len.ensures

sized : (c : Else-proof-membership_len) → let a = c.args in length a.proof.now ≡ total v1 (path a.i.0 a.n.0)
sized c = c.if-proof-membership_len.false ∙ counted (goal.at.Else-proof-membership_len c).After-membership_len

-- the first component is there, with its row 0
room : (c : Else-proof-membership_len) → let a = c.args in 0 + size v1 a.i.0 ≤ length a.proof.now
room c = let a = c.args in omega (arith, sized c, total_first v1 a.i.0 a.n.0)

whole : (c : After-component_at-first) → length c.component_at-first.result.now ≡ size v1 c.args.i.0
whole c = ap length c.component_at-first.ensures ∙ part_length _ 0 _ (room (goal.at.After-component_at-first c).Else-proof-membership_len)

compared : (c : After-row_is) →
    let a = c.args in
    c.row_is.result ≡ same (take 32 (drop 0 a.proof.now)) (hash_of (entry_msg a.entry.now))
compared c =
    let a = c.args in
    c.row_is.ensures
    ∙ ap₂ (λ (x d : Bytes). same (row v1 x 0) d) c.component_at-first.ensures c.entry_digest.ensures
    ∙ ap (λ (x : Bytes). same x (hash_of (entry_msg a.entry.now))) (row_at v1 a.proof.now 0 a.i.0 0 (omega arith))

-- the walk begins behind the first component
starts : (i n : ℕ) (p D x t : Bytes) {o : Judged ℕ} → x ≡ part v1 p 0 i → t ≡ hash_of (element_msg i x) → length x ≡ size v1 i
    → o ≡ walk hash_of v1 i t (hops i n) p (length x) D 0 → o ≡ walk hash_of v1 i (digest_at hash_of v1 p 0 i) (hops i n) p (size v1 i) D 0
starts i n p D x t ex et el eo =
    eo ∙ ap₂ (λ (u : Bytes) (k : ℕ). walk hash_of v1 i u (hops i n) p k D 0) (et ∙ ap (λ (y : Bytes). hash_of (element_msg i y)) ex) el

-- the definition at this call's arguments, by its tests
here : (c : Start) {b3 b4 b7 b8 : Bool} {o : Judged ℕ} →
    let a = c.args in
    let e = a.entry.now in
    let p = a.proof.now in
    leb (length e) entry_limit ≡ b3 → between v1 a.i.0 a.n.0 ≡ b4
    → eqb (length p) (total v1 (path a.i.0 a.n.0)) ≡ b7 → same (take 32 (drop 0 p)) (hash_of (entry_msg e)) ≡ b8
    → o ≡ must b3 too_long 0 (must b4 no_such_number 0 (must b7 wrong_length 0 (must b8 other_entry 0
    (walk hash_of v1 a.i.0 (digest_at hash_of v1 p 0 a.i.0) (hops a.i.0 a.n.0) p (size v1 a.i.0) a.digest.bytes 0))))
    → o ≡ member hash_of v1 e a.i.0 a.n.0 a.digest.bytes p
here c e3 e4 e7 e8 eo = let a = c.args in eo ∙ sym (member_is hash_of v1 a.entry.now a.i.0 a.n.0 a.digest.bytes a.proof.now e3 e4 e7 e8)

pub returns-then-entry-gt-ENTRY_LIMIT : goal.returns-then-entry-gt-ENTRY_LIMIT
unfolding verdict_of
returns-then-entry-gt-ENTRY_LIMIT c = here (goal.at.returns-then-entry-gt-ENTRY_LIMIT c).Start (lt-leb _ entry_limit c.if-entry-gt-ENTRY_LIMIT.true) refl refl refl refl

pub returns-then-not-asked : goal.returns-then-not-asked
unfolding verdict_of
returns-then-not-asked c = here (goal.at.returns-then-not-asked c).Start (short (goal.at.returns-then-not-asked c).Else-entry-gt-ENTRY_LIMIT) (sym c.asked.ensures ∙ c.if-not-asked.true) refl refl refl

pub returns-then-proof-membership_len : goal.returns-then-proof-membership_len
unfolding verdict_of
returns-then-proof-membership_len c =
    here (goal.at.returns-then-proof-membership_len c).Start (short (goal.at.returns-then-proof-membership_len c).Else-entry-gt-ENTRY_LIMIT) (asked (goal.at.returns-then-proof-membership_len c).Else-not-asked)
    (ne_eqb _ _ (λ x. c.if-proof-membership_len.true (x ∙ sym (counted (goal.at.returns-then-proof-membership_len c).After-membership_len)))) refl refl

pub component_at-first-requires : goal.component_at-first-requires
component_at-first-requires c = room (goal.at.component_at-first-requires c).Else-proof-membership_len

pub row_is-requires : goal.row_is-requires
row_is-requires c = omega (arith, whole (goal.at.row_is-requires c).After-component_at-first)

pub returns-then-not-row_is : goal.returns-then-not-row_is
unfolding verdict_of
returns-then-not-row_is c =
    here (goal.at.returns-then-not-row_is c).Start (short (goal.at.returns-then-not-row_is c).Else-entry-gt-ENTRY_LIMIT) (asked (goal.at.returns-then-not-row_is c).Else-not-asked)
    (eq-eqb _ _ (sized (goal.at.returns-then-not-row_is c).Else-proof-membership_len)) (sym (compared (goal.at.returns-then-not-row_is c).After-row_is) ∙ c.if-not-row_is.true) refl

pub element_digest-requires : goal.element_digest-requires
element_digest-requires c = omega (arith, whole (goal.at.element_digest-requires c).After-component_at-first, size_short c.args.i.0)

pub follow-requires : goal.follow-requires
follow-requires c =
    let h = between_true v1 _ _ (asked (goal.at.follow-requires c).Else-not-asked) in
    (h.1, omega (arith, whole (goal.at.follow-requires c).After-component_at-first, sized (goal.at.follow-requires c).Else-proof-membership_len))

pub returns : goal.returns
returns c =
    here (goal.at.returns c).Start (short (goal.at.returns c).Else-entry-gt-ENTRY_LIMIT) (asked (goal.at.returns c).Else-not-asked)
    (eq-eqb _ _ (sized (goal.at.returns c).Else-proof-membership_len)) (sym (compared (goal.at.returns c).After-row_is) ∙ c.if-not-row_is.false)
    (starts _ _ _ _ _ _ c.component_at-first.ensures c.element_digest.ensures (whole (goal.at.returns c).After-component_at-first) c.follow.ensures)
