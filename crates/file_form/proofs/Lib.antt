-- What follows from the definitions of specs/:
pub mod Rows  -- the rows in use, there and back
pub mod Answers  -- the outcome of each call, test by test
pub mod Back  -- NOTHING IS LOST, from state to file to state and from file to state to file
pub mod OneFile  -- ONE STATE HAS ONE FILE, and a file that reads gives itself back when written
pub mod Longer  -- the rows of a file, read with more levels
pub mod Wider  -- A FILE FROM A4 STILL READS: more levels move nothing below the limit that was
