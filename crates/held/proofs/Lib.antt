pub mod Turns  -- one turn of each loop over the rows
pub mod Making  -- rows made one for each level
