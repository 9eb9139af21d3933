pub mod Walking  -- the walk of a membership proof
