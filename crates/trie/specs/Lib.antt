pub mod Tidy  -- a list of handles below one node
pub mod Told  -- the number of what asking for a root comes to; one outcome
