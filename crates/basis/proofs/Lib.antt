pub mod Filling  -- the rows of a state, made one for each level
