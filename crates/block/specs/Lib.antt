pub mod Places  -- the schedule in sixteen places, and the rounds that use them
