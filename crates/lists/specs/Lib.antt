-- definitions
pub mod Bytes  -- byte strings, big-endian numbers
-- laws
pub mod Same  -- comparing byte strings
pub mod Pasted  -- bytes copied into a byte string
pub mod Pasting  -- byte strings made of parts
pub mod Laws  -- parts of lists, runs of stores
pub mod Numbers  -- big-endian numbers, there and back
