-- What follows from the definitions of specs/:
pub mod Blocks  -- laws on keys and pads
pub mod Adding  -- the van's call by its tests
pub mod Office  -- the office's walk by its steps
pub mod Places  -- where the parts of an entry stand in the log
pub mod Reading  -- reading back what was stored
pub mod Walked  -- entries that obey the rules are passed
pub mod Split  -- any log is such entries, and then it ends or an entry is wrong
pub mod Acceptance  -- THE OFFICE ACCEPTS EXACTLY THE LOGS THAT OBEY THE RULES
pub mod Closed  -- AFTER CLOSING NO KEY IS LEFT
pub mod Honest  -- EVERY LOG THE VAN BEGINS AND CLOSES PASSES
pub mod Learnt  -- 24 AND 25 SAY EXACTLY what the office learns
pub mod Cut  -- a log that was accepted, CUT OFF ANYWHERE
pub mod Clashing  -- two chains with one last value say the same, or messages clash
pub mod Binding  -- THE LAST Y BINDS A LOG, or the hash is broken
