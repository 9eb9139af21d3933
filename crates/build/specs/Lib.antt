pub mod Told  -- 01's number and value for each answer
pub mod Parts  -- components and proofs, as a store has them
pub mod Promises  -- what the contracts come to: one outcome, and demand 2
