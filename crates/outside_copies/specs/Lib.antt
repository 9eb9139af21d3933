pub mod Made  -- the store and the lines, by the program `make`
pub mod Agree  -- the definitions give the same
