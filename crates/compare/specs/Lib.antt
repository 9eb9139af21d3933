pub mod Told  -- what each answer says, in the request's terms
