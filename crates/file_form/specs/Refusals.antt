-- The refusals that request A4 adds: "Reading refuses, in this order and each with its own number: under 53 bytes, wrong mark, wrong version, count over
-- the limit, wrong length."
use Rattle.std.specs.Prelude.{ℕ}

-- "under 53 bytes"
abbrev pub file_short : ℕ
file_short = 18

-- "wrong mark"
abbrev pub mark_wrong : ℕ
mark_wrong = 19

-- "wrong version"
abbrev pub version_wrong : ℕ
version_wrong = 20

-- "count over the limit"
abbrev pub count_over : ℕ
count_over = 21

-- "wrong length"
abbrev pub length_wrong : ℕ
length_wrong = 22
