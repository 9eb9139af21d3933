-- `build::put_component` meets its contract: d, and the links behind it, are the component.
use native.Mathlib.Omega.{arith}
use Rattle.std.proofs.lemmas.Grind.{common_steps}
use Rattle.hash.specs.Hash.{hash_of, hash_length}
use Rattle.rules.specs.Numbers.{v1}
use Rattle.build.proofs.Writing.{component_written}
use Rattle.build.proofs.put_component.Goals as goal

pub returns : goal.returns
returns c =
    let a = c.args in
    component_written hash_of hash_length v1 a.s.now a.out.now _ c.put_links.new.out c.body_of-d.result.now a.to a.j.0 (omega arith) (omega arith) (omega arith)
    c.body_of-d.ensures.0 (grind (arith, common_steps)) c.put_links.ensures
