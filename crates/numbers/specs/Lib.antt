pub mod Saying  -- what the code says, in the rules' terms
