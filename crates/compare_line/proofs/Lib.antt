pub mod Digits  -- a number in its fewest digits
