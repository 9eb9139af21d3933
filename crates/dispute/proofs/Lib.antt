pub mod Judging  -- what the dispute answers, by its tests
