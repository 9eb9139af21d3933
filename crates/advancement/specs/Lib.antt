pub mod Advancing  -- 01's number and values for each verdict, and one hop
pub mod Advances  -- what the check promises: one answer, the old state or the new, honest proofs accepted
pub mod Broken  -- WHERE AN ADVANCEMENT BROKE
