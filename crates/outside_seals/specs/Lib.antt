pub mod Made  -- the figures, by the program `make`
pub mod Agree  -- the definitions give the same
