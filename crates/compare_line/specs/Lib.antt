pub mod Text  -- the line without its line feed
