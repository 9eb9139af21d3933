pub mod Ways  -- the siblings on a way, counted and written
