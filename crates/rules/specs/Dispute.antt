-- 01, "The dispute routine": which two messages it names, and which part the second call hands back.
use Rattle.std.specs.Prelude.{Bool, true, false, cond, ◌&&◌, List, [], ◌∷◌, ℕ, ◌+◌, leb, eqb, length}
use Rattle.std.proofs.Math.Option.{Option, none, some}
use Rattle.lists.specs.Bytes.{Bytes, same}
use Rattle.rules.specs.Numbers.{Version, entry_limit}
use Rattle.rules.specs.Paths.{path}
use Rattle.rules.specs.Messages.{entry_msg, element_msg, size, total, part}
use Rattle.rules.specs.Checking.{between}

module _ {A : Type 0} where
  -- x if the test failed
  abbrev pub unlike : Bool → A → Option A
  unlike true x = none
  unlike false x = some x

  abbrev pub or_else : Option A → Option A → Option A
  or_else (some x) y = some x
  or_else none y = y

-- where a part of a proof begins, and its size
pub record Part : Type 0 where
  pub from : ℕ
  pub size : ℕ

module _ (v : Version) where
  -- "Walking back from n, the first differing component": its element, and where it stands in both proofs
  unfoldable pub nearest : List ℕ → Bytes → Bytes → ℕ → Option (ℕ × ℕ)
  nearest [] p q o = none
  nearest (j ∷ js) p q o = or_else (nearest js p q (o + size v j)) (unlike (same (part v p o j) (part v q o j)) (j, o))

  -- the component for j at o, where the two differ
  abbrev pub differs_at : Bytes → Bytes → ℕ → ℕ → Option (ℕ × ℕ)
  differs_at p q j o = unlike (same (part v p o j) (part v q o j)) (j, o)

  -- "gives the two element messages"
  abbrev pub messages : Bytes → Bytes → Option (ℕ × ℕ) → Option (Bytes × Bytes)
  messages p q none = none
  messages p q (some s) = some (element_msg s.0 (part v p s.1 s.0), element_msg s.0 (part v q s.1 s.0))

  -- "if no component differs, differing entries give the two entry messages"
  unfoldable pub dispute : ℕ → ℕ → Bytes → Bytes → Bytes → Bytes → Option (Bytes × Bytes)
  dispute i n e1 e2 p1 p2 = or_else (messages p1 p2 (nearest (path i n) p1 p2 0)) (unlike (same e1 e2) (entry_msg e1, entry_msg e2))

  -- "the differing component nearest n as a part of the second proof"
  abbrev pub part_of : Option (ℕ × ℕ) → Part
  part_of none = record { from = 0; size = 0 }
  part_of (some s) = record { from = s.1; size = size v s.0 }

  -- "It is the empty part if none differs, a length is wrong or the positions are refused."
  unfoldable pub differing : ℕ → ℕ → Bytes → Bytes → Part
  differing i n p q =
      cond (between v i n && (eqb (length p) (total v (path i n)) && eqb (length q) (total v (path i n))))
      (part_of (nearest (path i n) p q 0))
      (part_of none)

-- "two lent buffers of at least 4,097 bytes": the longest message, that of an entry of 4,096 bytes
abbrev pub message_room : ℕ
message_room = entry_limit + 1

abbrev pub roomy : Bytes → Bytes → Bool
roomy b1 b2 = leb message_room (length b1) && leb message_room (length b2)
