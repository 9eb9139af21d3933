pub mod Advancing  -- the walk of an advancement
