pub mod Made  -- the figures, by the program `make`
pub mod Agree  -- the rules give the same
pub mod Saved  -- and so does the file form of a held state
pub mod Broken  -- and the places where a spoiled proof broke
pub mod Ends  -- and the paths, states and files at the ends of the longest log
