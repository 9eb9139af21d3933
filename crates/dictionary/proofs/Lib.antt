-- What follows from the definitions of specs/:
pub mod Answers  -- the outcome of each call, test by test
pub mod Accepted  -- what acceptance says of a proof
pub mod Rows  -- rows of 32 bytes
pub mod Sides  -- the two sides of a list of handles
pub mod Bits  -- a handle as a number
pub mod Honest  -- a built proof shows the root of its list
pub mod Shortest  -- A PROOF OF ABSENCE ENDS AT THE FIRST EMPTY NODE
pub mod Clashing  -- THE CLASH THEOREM
pub mod Built  -- EACH KIND IS BUILT EXACTLY WHEN TRUE, and accepted
pub mod Shown  -- the clash theorem for the whole outcome of the call
pub mod Binding  -- WHAT A LIST SAYS CAN'T BE DENIED without breaking the hash
