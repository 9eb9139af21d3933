pub mod Turns  -- one turn of each loop over the rows, and the whole file
