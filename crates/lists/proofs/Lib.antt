pub mod Tests  -- std's test of two slices
