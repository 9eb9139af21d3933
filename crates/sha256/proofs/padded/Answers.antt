-- `sha256::padded` meets its contract: what it writes behind the rest is FIPS's padding.
use Rattle.std.proofs.Common.{◌∙◌, ◌*◌, arith}
use Rattle.sha256.proofs.Closing.{padded_short, padded_long, counted_bytes}
use Rattle.sha256.proofs.Storing.{stored}
use Rattle.sha256.proofs.padded.Goals as goal

pub returns-then-fill-lt56 : goal.returns-then-fill-lt56
returns-then-fill-lt56 c =
    padded_short c.args.words _ c.args.rest.now c.to_be_bytes-count.result c.put.new.s _ c.args.total c.requires.0 (c.to_be_bytes-count.ensures ∙ counted_bytes (c.args.total * 8)) c.put.ensures
    (stored c.put.new.s _ 0x80 (omega arith)) _ c.if-fill-lt56.true c.put-then-fill-lt56.ensures c.compress.ensures

pub returns : goal.returns
returns c =
    padded_long c.args.words _ c.args.rest.now c.to_be_bytes-count.result c.put.new.s _ c.args.total c.requires.0 (c.to_be_bytes-count.ensures ∙ counted_bytes (c.args.total * 8)) c.put.ensures
    (stored c.put.new.s _ 0x80 (omega arith)) _ _ c.if-fill-lt56.false (omega arith) c.put-2.ensures c.compress-2.ensures c.compress-3.ensures
