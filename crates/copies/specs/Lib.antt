-- Request A8 as definitions:
pub mod Comparing  -- the first difference of two stores, or which is the start of the other
pub mod Refusals  -- the new refusal, by name
pub mod Calls  -- the whole outcome of the call
pub mod Line  -- what the program writes

-- what follows from them stands in proofs/
