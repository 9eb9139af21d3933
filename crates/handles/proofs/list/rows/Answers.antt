-- `handles::list::rows` meets its contract: the pieces of 32 bytes are the rows.
use Rattle.std.proofs.Common.{◌∙◌, ◌/◌, length}
use Rattle.handles.proofs.Listing.{pieces_are_rows}
use Rattle.handles.proofs.list.rows.Goals as goal

pub returns : goal.returns
returns c = c.as_chunks.ensures.front ∙ pieces_are_rows (length c.args.bytes.now / 32) c.args.bytes.now
