-- What follows from the definitions of specs/:
pub mod First  -- the first number for which something does not hold
pub mod Answers  -- the outcome of the call, test by test
pub mod Meaning  -- what each answer says of two stores: equal, the start of the other, and that N and B are the least
pub mod Exactly  -- WHAT THE CALL ANSWERS, EXACTLY
pub mod Swapped  -- THE OTHER WAY ROUND
pub mod Shared  -- WHAT TWO STORES THAT AGREE GIVE: every digest, proof and held state up to the lower count
pub mod Sound  -- TWO STORES THAT BOTH PASS THE AUDIT DIFFER FIRST IN d
