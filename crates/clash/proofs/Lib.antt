pub mod Meets  -- the messages that two proofs come to
