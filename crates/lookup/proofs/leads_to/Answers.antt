-- `lookup::leads_to` meets its contract: what the siblings come to is compared with the root.
use Rattle.std.proofs.Common.{ap, ◌∙◌}
use Rattle.lists.specs.Bytes.{Bytes, same}
use Rattle.handles.proofs.Listing.{same_tests}
use Rattle.lookup.proofs.leads_to.Goals as goal

pub returns : goal.returns
returns c = c.eq.ensures ∙ same_tests c.climb.result.bytes c.args.root.bytes ∙ ap (λ (x : Bytes). same x c.args.root.bytes) c.climb.ensures
