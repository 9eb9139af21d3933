pub mod Told  -- the number and the size of each answer
pub mod Promises  -- what the contracts come to: one outcome, each kind built exactly when true, and accepted
