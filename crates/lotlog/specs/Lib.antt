pub mod Exports  -- the shapes of what an export leaves
pub mod Outcomes  -- what each export leaves
pub mod Recalls  -- what each export of request A1 leaves
pub mod Sealing  -- what each export of request A6 leaves
pub mod Comparing  -- what the export of request A8 leaves
pub mod Telling  -- how telling an answer tells the outcome
pub mod OneOutcome  -- ANY TWO OUTCOMES COINCIDE: every public call, and every export
