-- `handles::list::rising` meets its contract: the order of rows is that of their numbers.
use Rattle.std.proofs.Common.{rules}
use Rattle.std.proofs.lemmas.Fn.{always_returns_same}
use Rattle.handles.proofs.Listing.{below, sorted_rises}
use Rattle.handles.proofs.list.rising.Goals as goal

pub returns : goal.returns
returns c =
    let h = c.is_sorted_by.ensures.cases below (always_returns_same _ _ _ (λ a r f' k. search rules)) in
    sorted_rises c.args.handles.now c.is_sorted_by.result (λ i. (c.type_inv.handles i).fits)
    (rw c.rows.ensures at h)
