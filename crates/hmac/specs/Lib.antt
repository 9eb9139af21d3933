pub mod Told  -- the number and the digest of each answer
pub mod Promises  -- what the contract comes to: one outcome
