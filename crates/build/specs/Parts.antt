-- Components and proofs, made of what a store has.
use Rattle.std.specs.Prelude.{ℕ}
use Rattle.lists.specs.Bytes.{Bytes}
use Rattle.rules.specs.Numbers.{Version}
use Rattle.rules.specs.Messages.{component, membership_proof, advancement_proof}
use Rattle.rules.specs.Store.{body_of, t_of}

module _ (H : Bytes → Bytes) (v : Version) (s : Bytes) where
  abbrev pub component_in : ℕ → Bytes
  component_in j = component (body_of v s) (t_of H v s) j

  abbrev pub membership_in : ℕ → ℕ → Bytes
  membership_in i n = membership_proof (body_of v s) (t_of H v s) i n

  abbrev pub advancement_in : ℕ → ℕ → Bytes
  advancement_in i n = advancement_proof (body_of v s) (t_of H v s) i n
