pub mod Wiring  -- rows read from bytes and written to them, one after the other
