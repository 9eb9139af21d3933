-- `compare_line::outcome` meets its contract: each return fixes the tests of the definition up to it.
use Rattle.std.proofs.Common.{◌∙◌, ap, refl, sym, length}
use borrow.Author.Tests.{lt-leb, le-leb}
use Rattle.rules.specs.Numbers.{v1}
use Rattle.copies.specs.Line.{words, file_most}
use Rattle.compare_line.specs.Text.{text_is}
use Rattle.compare_line.proofs.outcome.Goals as goal
use Rattle.compare_line.proofs.outcome.Goals.{then-not-read-via-then-not-read, then-not-read-via-else-not-read+then-first-gt-MOST, then-not-read-via-else-not-read+else-first-gt-MOST+then-second-gt-MOST}

pub returns-then-not-read : goal.returns-then-not-read
returns-then-not-read c =
    let s = c.args.first.now in
    let t = c.args.second.now in
    elim c.then-not-read.branch [
      | then-not-read-via-then-not-read w ↦ c.of.ensures ∙ sym (text_is v1 s t w.if-not-read.true refl refl)
      | then-not-read-via-else-not-read+then-first-gt-MOST w ↦ c.of.ensures ∙ sym (text_is v1 s t w.if-not-read.false (lt-leb (length s) file_most w.if-first-gt-MOST.true) refl)
      | then-not-read-via-else-not-read+else-first-gt-MOST+then-second-gt-MOST w ↦ c.of.ensures ∙ sym (text_is v1 s t w.if-not-read.false (le-leb (length s) file_most w.if-first-gt-MOST.false) (lt-leb (length t) file_most w.if-second-gt-MOST.true))
    ]

pub returns : goal.returns
returns c =
    let s = c.args.first.now in
    let t = c.args.second.now in
    c.answer_words.ensures ∙ ap words c.compare.ensures
    ∙ sym (text_is v1 s t c.if-not-read.false (le-leb (length s) file_most c.if-first-gt-MOST.false) (le-leb (length t) file_most c.if-second-gt-MOST.false))
