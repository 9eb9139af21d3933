pub mod Feeding  -- bytes fed to a state
pub mod Closing  -- the padding, as it is written
pub mod Storing  -- bytes copied into a block
