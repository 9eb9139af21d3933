pub mod Told  -- the number of each verdict; one outcome
pub mod Climbing  -- a proof from the bottom up
