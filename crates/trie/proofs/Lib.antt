pub mod Sorting  -- the two sides of a lent list
pub mod Nodes  -- nodes over a lent list
