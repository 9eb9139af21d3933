pub mod Inner  -- the message of an inner node as it is put together
