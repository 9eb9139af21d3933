-- What follows from the definitions of specs/:
pub mod Figures  -- the starred figures
pub mod Verdicts  -- passing and failing checks, asked numbers, messages of an element
pub mod Hops  -- trailing zeros, hop levels, the hops of a path
pub mod Halving  -- paths at half the size, the induction behind the bounds, which are reached
pub mod Bounds  -- the most hops, the longest proof, component and message
pub mod Wider  -- MORE LEVELS MOVE NOTHING BELOW THE LIMIT THAT WAS
pub mod Parity  -- the lowest bit of a number, and the next number
pub mod Carrying  -- one hop on the rows of any state
pub mod Walking  -- the two checks hop by hop, at the numbers that code has
pub mod Acceptance  -- what acceptance says: the path's hops, the state handed back
pub mod Broken  -- WHERE A MEMBERSHIP PROOF BROKE: the place beside 10 is true, and no other answer shows one
pub mod BrokenAdvance  -- WHERE AN ADVANCEMENT BROKE: the same of 9 and 10
pub mod Settled  -- the dispute theorem
pub mod Spots  -- the differing component nearest n, found from the front
pub mod Shown  -- the dispute theorem for the whole outcome of the call
pub mod Honest  -- honest membership proofs are accepted
pub mod Rows  -- one hop on the rows that digests give
pub mod HonestAdvance  -- honest advancement proofs are accepted, and give the state at n
pub mod Log  -- the digests of a log obey the rules, and its honest proofs are accepted
pub mod OneOutcome  -- any two outcomes that a call's statement allows coincide
-- of the store
pub mod Places  -- where records stand, and which lie within a store
pub mod Scan  -- the scans of a store, step by step
pub mod States  -- what the count and the order test say of each state byte
pub mod Stored  -- the stored digests and the links that they make
pub mod Damage  -- refusal 1, test by test
pub mod Answers  -- the outcome of each call on a store, test by test
pub mod Stray  -- A STATE BYTE THAT IS NEITHER OPEN NOR CLOSED, on every call that reads
pub mod Fresh  -- a store that was just started, byte for byte and call by call
pub mod Started  -- STARTING A STORE, on the call
pub mod Example  -- 01's whole example
pub mod Passed  -- WHAT AN AUDIT THAT PASSES SAYS, and one that names an element
pub mod Built  -- WHAT A STORE THAT PASSES THE AUDIT GIVES IS ACCEPTED
pub mod Kept  -- what a common beginning of two stores keeps
pub mod Alike  -- two stores that say the same up to a count
pub mod Cut  -- a store after k stores of an append
pub mod Whole  -- a store after all of them
pub mod Appended  -- THE CUT RULE, on every call that reads
pub mod Again  -- the next append: the count now held, and no trace of an earlier cut
