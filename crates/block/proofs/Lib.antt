pub mod Choosing  -- `ch` and `maj` by fewer operations, and a sum in another order
pub mod Scheduling  -- one more word in its place, sixteen more rounds
