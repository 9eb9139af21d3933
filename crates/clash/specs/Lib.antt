pub mod Told  -- what each answer tells
pub mod Found  -- what the walk of two proofs holds
pub mod Promises  -- one outcome, and the clash theorem for the code
