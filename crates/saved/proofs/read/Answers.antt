-- `saved::read` meets its contract: each return fixes the tests of the definition up to it.
use mathlib.Core.Path.{◌≡◌, refl, sym, ap, ◌∙◌}
use mathlib.Core.Bool.{Bool, true, false, cond}
use native.Mathlib.Omega.{arith}
use lib.Dec.{leb, ltb}
use lib.ListN.{length}
use borrow.Author.Tests.{lt-ltb, le-ltb, le-leb, lt-leb, eq-eqb, ne_eqb}
use Rattle.lists.specs.Bytes.{be, same}
use Rattle.hash.specs.Hash.{hash_of}
use Rattle.rules.specs.Numbers.{v1, limit}
use Rattle.rules.specs.Refusals.{done, state_broken}
use Rattle.rules.specs.Held.{is_in_order}
use Rattle.rules.specs.Calls.{held_found}
use Rattle.file_form.specs.Form.{hld, head_size, file_size, mark_in, version_in, count_in, state_in}
use Rattle.file_form.specs.Calls.{unread, read_call}
use Rattle.file_form.proofs.Answers.{read_is}
use Rattle.saved.proofs.read.Goals as goal
use Rattle.saved.proofs.read.Goals.{After-file_len, After-is_in_order, Else-count-gt-LIMIT, Else-file-file_len, Else-file-lt-HEAD, Else-not-is_marked, Else-not-is_of_version}

-- ---- what each passed test says, at the place behind it

long : (c : Else-file-lt-HEAD) → ltb (length c.args.file.now) head_size ≡ false
long c = le-ltb _ _ c.if-file-lt-HEAD.false

marked : (c : Else-not-is_marked) → same (mark_in c.args.file.now) hld ≡ true
marked c = sym c.is_marked.ensures ∙ c.if-not-is_marked.false

versioned : (c : Else-not-is_of_version) → same (version_in c.args.file.now) (be 2 v1.number) ≡ true
versioned c = sym c.is_of_version.ensures ∙ c.if-not-is_of_version.false

few : (c : Else-count-gt-LIMIT) → leb (count_in c.args.file.now) (limit v1) ≡ true
few c = le-leb (count_in c.args.file.now) (limit v1) (omega (arith, c.if-count-gt-LIMIT.false, c.number_at.ensures))

size : (c : After-file_len) →
    c.file_len.result ≡ file_size (count_in c.args.file.now)
size c = c.file_len.ensures ∙ ap file_size c.number_at.ensures

sized : (c : Else-file-file_len) →
    let f = c.args.file.now in
    length f ≡ file_size (count_in f)
sized c = omega (arith, c.if-file-file_len.false, size (goal.at.Else-file-file_len c).After-file_len)

-- ---- the needs

-- where a state was made and judged, the outcome by that judgement
judged : (c : After-is_in_order) (b : Bool) → c.is_in_order.result ≡ b →
    let f = c.args.file.now in
    read_call hash_of v1 f ≡ cond b (held_found done (state_in v1 f)) (unread hash_of v1 state_broken)
judged c b e =
    let f = c.args.file.now in
    read_is hash_of v1 f (long (goal.at.After-is_in_order c).Else-file-lt-HEAD) (marked (goal.at.After-is_in_order c).Else-not-is_marked) (versioned (goal.at.After-is_in_order c).Else-not-is_of_version) (few (goal.at.After-is_in_order c).Else-count-gt-LIMIT) (eq-eqb _ _ (sized (goal.at.After-is_in_order c).Else-file-file_len))
    (ap (is_in_order hash_of v1) (sym c.held_in-state.ensures) ∙ sym c.is_in_order.ensures ∙ e)

pub returns-then-file-lt-HEAD : goal.returns-then-file-lt-HEAD
returns-then-file-lt-HEAD c =
    let f = c.args.file.now in
    sym (read_is hash_of v1 f (lt-ltb _ _ c.if-file-lt-HEAD.true) refl refl refl refl refl)

pub returns-then-not-is_marked : goal.returns-then-not-is_marked
returns-then-not-is_marked c =
    let f = c.args.file.now in
    sym (read_is hash_of v1 f (long (goal.at.returns-then-not-is_marked c).Else-file-lt-HEAD) (sym c.is_marked.ensures ∙ c.if-not-is_marked.true) refl refl refl refl)

pub returns-then-not-is_of_version : goal.returns-then-not-is_of_version
returns-then-not-is_of_version c =
    let f = c.args.file.now in
    sym (read_is hash_of v1 f (long (goal.at.returns-then-not-is_of_version c).Else-file-lt-HEAD) (marked (goal.at.returns-then-not-is_of_version c).Else-not-is_marked) (sym c.is_of_version.ensures ∙ c.if-not-is_of_version.true) refl refl refl)

pub returns-then-count-gt-LIMIT : goal.returns-then-count-gt-LIMIT
returns-then-count-gt-LIMIT c =
    let f = c.args.file.now in
    sym (read_is hash_of v1 f (long (goal.at.returns-then-count-gt-LIMIT c).Else-file-lt-HEAD) (marked (goal.at.returns-then-count-gt-LIMIT c).Else-not-is_marked) (versioned (goal.at.returns-then-count-gt-LIMIT c).Else-not-is_of_version) (lt-leb (count_in f) (limit v1) (omega (arith, c.if-count-gt-LIMIT.true, c.number_at.ensures))) refl refl)

pub returns-then-file-file_len : goal.returns-then-file-file_len
returns-then-file-file_len c =
    let f = c.args.file.now in
    sym (read_is hash_of v1 f (long (goal.at.returns-then-file-file_len c).Else-file-lt-HEAD) (marked (goal.at.returns-then-file-file_len c).Else-not-is_marked) (versioned (goal.at.returns-then-file-file_len c).Else-not-is_of_version) (few (goal.at.returns-then-file-file_len c).Else-count-gt-LIMIT) (ne_eqb (length f) (file_size (count_in f)) (λ g. omega (arith, c.if-file-file_len.true, size (goal.at.returns-then-file-file_len c).After-file_len))) refl)

pub held_in-state-requires : goal.held_in-state-requires
held_in-state-requires c = sized (goal.at.held_in-state-requires c).Else-file-file_len

pub returns-then-not-is_in_order : goal.returns-then-not-is_in_order
returns-then-not-is_in_order c = sym (judged (goal.at.returns-then-not-is_in_order c).After-is_in_order false (c.if-not-is_in_order.true))

pub returns : goal.returns
returns c = ap (held_found done) c.held_in-state.ensures ∙ sym (judged (goal.at.returns c).After-is_in_order true (c.if-not-is_in_order.false))
