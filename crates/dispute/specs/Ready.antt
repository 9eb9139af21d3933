-- What is known once both proofs are accepted and both buffers are long enough.
use Rattle.std.specs.Prelude.{◌≡◌, ℕ, ◌≤◌, length}
use Rattle.lists.specs.Bytes.{Bytes}
use Rattle.rules.specs.Numbers.{v1, entry_limit}
use Rattle.rules.specs.Paths.{path}
use Rattle.rules.specs.Messages.{total}
use Rattle.rules.specs.Dispute.{message_room}

pub record Ready (e1 p1 e2 p2 : Bytes) (i n : ℕ) (b1 b2 : Bytes) : Type 0 where
  pub high : i ≤ n
  pub entry1_fits : length e1 ≤ entry_limit
  pub entry2_fits : length e2 ≤ entry_limit
  pub proof1_sized : length p1 ≡ total v1 (path i n)
  pub proof2_sized : length p2 ≡ total v1 (path i n)
  pub room1 : message_room ≤ length b1
  pub room2 : message_room ≤ length b2
