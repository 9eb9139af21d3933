pub mod Told  -- the number and the size, or the state, of each answer
pub mod Promises  -- what the contracts come to: one outcome, what is written reads back, and a file that reads gives itself back
