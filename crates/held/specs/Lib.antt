pub mod Holding  -- the state that the rules speak of, from the code's
pub mod Rows  -- what the rows say of a hop
