pub mod Listing  -- a lent list, row by row
pub mod Asked  -- what an answer of `handle_of` tells of the key
