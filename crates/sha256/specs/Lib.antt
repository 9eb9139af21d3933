pub mod Stream  -- what each call gives, by the rule of one byte at a time
pub mod Outcomes  -- what each call gives, told by its tests
pub mod Runs  -- what a run of bytes does to a state
pub mod Ending  -- the last hash value, from the front of a block on
pub mod Pieces  -- ANY CUTTING GIVES THE ONE-SHOT VALUE, which is FIPS's
pub mod Lengths  -- every answer holds 32 bytes
