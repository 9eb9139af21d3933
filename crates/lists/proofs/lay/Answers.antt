-- `lists::lay` meets its contract: after i turns the first i bytes are pasted in.
use Rattle.std.proofs.Common.{◌≡◌, rules, sym, ap, ap₂, ◌∙◌, ℕ, ◌+◌, List, slice_index_or, slice_set, arith}
use Rattle.std.proofs.Math.Seq.{paste}
use native.Mathlib.Numerals.{add-one}
use lib.ListN.{length-set}
use lib.Seq.{paste-suc}
use Rattle.lists.proofs.lay.Goals as goal

pub loop-i-preserved : goal.loop-i-preserved
loop-i-preserved c =
    let a = c.args in
    let l = c.loop-i in
    let more = paste-suc a.s.now a.at a.from.now l.i 0 (omega arith) (omega arith) in
    let place : _ ≡ a.at + l.i = omega arith in
    let byte : _ ≡ slice_index_or a.from.now l.i 0 = search rules in (
      ap₂ {A = ℕ} {B = ℕ} {C = List ℕ} (slice_set l.s) place byte
          ∙ ap (λ (x : List ℕ). slice_set x (a.at + l.i) (slice_index_or a.from.now l.i 0)) l.invariant.0
          ∙ more
          ∙ ap (λ (k : ℕ). paste a.s.now a.at a.from.now k) (sym (add-one l.i)),
      simp length-set l.invariant.1,
    )
