-- The refusal that request A8 adds: "A different log number is refused with a new number".
use Rattle.std.specs.Prelude.{ℕ}

abbrev pub other_log : ℕ
other_log = 26
