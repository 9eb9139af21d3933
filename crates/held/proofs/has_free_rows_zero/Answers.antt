-- `held::has_free_rows_zero` meets its contract: every row with its number is tested as the definition tests it.
use Rattle.std.proofs.Common.{◌∙◌, rules}
use Rattle.std.proofs.lemmas.Iterator.{YieldsList-from_slice}
use Rattle.std.proofs.lemmas.Iterator.Consumers.{YieldsList-from_enumerate}
use Rattle.std.proofs.lemmas.Iterator.Search.{all_from_yields_List}
use borrow.Author.Tests.{tests}
use Rattle.held.proofs.Turns.{stands, all_stand}
use Rattle.held.proofs.has_free_rows_zero.Goals as goal

pub returns : goal.returns
returns c =
    let h = c.args.h.now in
    all_from_yields_List (stands h.count.0) _ _ _ c.all.ensures.ran (YieldsList-from_enumerate (YieldsList-from_slice h.rows cc) cc) (λ x b q k. search (rules, tests))
    ∙ all_stand h.count.0 h.rows
