pub mod Parts  -- the component that stands in a proof
