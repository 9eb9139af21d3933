-- What the rows say of a hop, by the rules: whether they agree, and which of them is the lowest that differs.
use Rattle.std.specs.Prelude.{Option, None, Some, cond, List, ℕ}
use Rattle.lists.specs.Bytes.{Bytes}
use Rattle.rules.specs.Numbers.{v1}
use Rattle.rules.specs.Checking.{agrees, off_row}

-- the rows from level c up against the component x; q as in `agrees`
unfoldable pub rows_say : ℕ → ℕ → List Bytes → Bytes → Option ℕ
rows_say c q rs x = cond (agrees v1 c q rs x) None (Some (off_row v1 c rs x))
