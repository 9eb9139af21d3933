-- Request A1 as definitions:
pub mod Handles  -- handles and their bits, a lent list of them
pub mod Trie  -- the trie's nodes, the siblings on a key's way, the check's hashing
pub mod Meeting  -- the messages that two proofs of opposite kinds come to
pub mod Refusals  -- the new refusals, by name
pub mod Calls  -- the whole outcome of each public call

-- what follows from them stands in proofs/
