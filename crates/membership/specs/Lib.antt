pub mod Verdicts  -- 01's number and hops for each verdict
pub mod Hopping  -- one hop, as the code takes it
pub mod Broken  -- WHERE A PROOF BROKE
