-- Document 01 as definitions, in its order:
pub mod Numbers  -- what a version of the log fixes, the limits
pub mod Paths  -- link counts, hop levels, paths
pub mod Messages  -- hashed messages, components, proofs, digests
pub mod Store  -- the store on disk
pub mod Held  -- what a practice holds
pub mod Checking  -- membership and advancement
pub mod Dispute  -- the two messages, the differing part
pub mod Refusals  -- the numbers, by name
pub mod Calls  -- the whole outcome of each public call

-- what follows from them stands in proofs/
