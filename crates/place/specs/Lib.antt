pub mod Places  -- where two proofs differ
