pub mod Wire  -- the bytes of a held state
