-- `dispute::show::show_entries` meets its contract: the head of an entry's message is one zero byte.
use mathlib.Core.Path.{◌≡◌, refl, sym, ◌∙◌}
use mathlib.Core.Bool.{true, false}
use mathlib.Core.Option.{none, some}
use Rattle.lists.specs.Bytes.{Bytes, same}
use Rattle.rules.specs.Messages.{entry_msg}
use Rattle.rules.specs.Dispute.{unlike}
use Rattle.rules.specs.Calls.{Disputed, showing}
use Rattle.dispute.specs.Answers.{finding_of}
use Rattle.dispute.proofs.show.show_entries.Goals as goal

module _ (e1 e2 b1 b2 : Bytes) (o : Disputed) where
  alike : same e1 e2 ≡ true → o ≡ showing none b1 b2 → o ≡ showing (unlike (same e1 e2) (entry_msg e1, entry_msg e2)) b1 b2
  alike e s = rw e s

  differ : same e1 e2 ≡ false → o ≡ showing (some (entry_msg e1, entry_msg e2)) b1 b2 → o ≡ showing (unlike (same e1 e2) (entry_msg e1, entry_msg e2)) b1 b2
  differ e s = rw e s

pub returns-then-eq : goal.returns-then-eq
unfolding finding_of
returns-then-eq c =
    let a = c.args in
    alike a.entry1.now a.entry2.now a.out1.now a.out2.now _ (sym c.eq.ensures ∙ c.if-eq.true) refl

pub returns : goal.returns
returns c =
    let a = c.args in
    differ a.entry1.now a.entry2.now a.out1.now a.out2.now _ (sym c.eq.ensures ∙ c.if-eq.false) c.show_both.ensures
