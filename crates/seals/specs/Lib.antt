-- Request A6 as definitions:
pub mod Hmac  -- HMAC of RFC 2104
pub mod Chain  -- the chain, the keys, and an entry as it is stored
pub mod Refusals  -- the new refusals, by name
pub mod Calls  -- the whole outcome of each public call
pub mod Entries  -- a log as a list of entries, and the written rules for it

-- what follows from them stands in proofs/
