pub mod Hash  -- the stand-in
pub mod Joined  -- what `joined` gives
pub mod Stirred  -- the stand-in, byte by byte
