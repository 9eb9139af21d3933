pub mod Spotting  -- what a spot says
