pub mod Answers  -- 01's number and values for each answer
pub mod Ready  -- what is known once both proofs are accepted
pub mod Lies  -- the dispute theorem, for the code
