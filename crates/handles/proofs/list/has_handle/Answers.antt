-- `handles::list::has_handle` meets its contract: the test of two rows is the definition's.
use Rattle.std.proofs.Common.{◌∙◌, ap}
use Rattle.handles.proofs.Listing.{any_has}
use Rattle.dictionary.specs.Handles.{has}
use Rattle.handles.proofs.list.has_handle.Goals as goal

pub returns : goal.returns
returns c = c.contains.ensures.value ∙ any_has c.args.key.bytes c.rows.result.now ∙ ap (has c.args.key.bytes) c.rows.ensures
