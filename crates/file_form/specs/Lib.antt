-- Request A4 as definitions:
pub mod Form  -- the file of a state, and the state that stands in a file
pub mod Refusals  -- the new refusals, by name
pub mod Calls  -- the whole outcome of each public call

-- what follows from them stands in proofs/
