pub mod Joining  -- two strings, one after the other
