pub mod Promises  -- what the contract comes to
