pub mod Told  -- the number of what asking for a handle comes to; one outcome
