-- `trie::ones_from` meets its contract: the handles before the first that passes have bit 0.
use Rattle.std.proofs.Common.{rules, ap, ◌∙◌, ◌*◌, ℕ}
use borrow.Author.Tests.{tests}
use Rattle.std.proofs.lemmas.Iterator.{YieldsList-from_slice}
use Rattle.std.proofs.lemmas.Iterator.Search.{position_from_yields_List}
use Rattle.dictionary.specs.Handles.{turn, leading}
use Rattle.trie.proofs.Sorting.{first_one}
use Rattle.trie.proofs.ones_from.Goals as goal

pub returns : goal.returns
returns c =
    let e = c.args.e in
    let hs = c.rows-rows.result.now in
    let r = position_from_yields_List (turn e) _ _ c.position-ones.result c.position-ones.ensures.ran (YieldsList-from_slice hs cc) (λ x b q k. search (rules, tests)) in
    ap (λ (n : ℕ). 32 * n) (c.unwrap_or.ensures ∙ first_one e hs c.position-ones.result r ∙ ap (leading e) c.rows-rows.ensures)
