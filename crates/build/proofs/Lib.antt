pub mod Writing  -- proofs, written component by component
pub mod Asking  -- the numbers that a store has a proof for
