pub mod Told  -- 01's number and the state for each answer; one outcome
