-- `lists::number_in` meets its contract: the bytes stand behind zeros, which add nothing to the number.
use Rattle.std.proofs.Common.{◌≡◌, refl, ap, ◌∙◌, ◌++◌, ℕ, zero, suc, ◌-◌, ◌≤◌, take, drop, length, replicate, rules, arith}
use Rattle.std.proofs.lemmas.Slice.{take-put_mid}
use Rattle.lists.specs.Bytes.{Bytes, number_from, number}
use Rattle.lists.specs.Laws.{take_replicate, length_part}
use Rattle.lists.proofs.number_in.Goals as goal

behind_zeros : (m : ℕ) (b : Bytes) → number (replicate m 0 ++ b) ≡ number b
unfolding number_from
behind_zeros zero b = refl
behind_zeros (suc m) b = behind_zeros m b

widened : (w part : Bytes) (k : ℕ) → k ≤ 8 → w ≡ take (8 - k) (replicate 8 0) ++ part → number w ≡ number part
widened w part k h e =
    ap number (e ∙ ap (λ (z : Bytes). z ++ part) (take_replicate (8 - k) 8 0 (omega arith))) ∙ behind_zeros (8 - k) part

pub returns : goal.returns
returns c =
    let a = c.args in
    let l = length_part a.k a.at a.s.now c.requires.0 in
    let p : c.copy_from_slice.new.self ≡ take a.k (drop a.at a.s.now) = search rules in
    c.number_at.ensures
    ∙ widened _ c.copy_from_slice.new.self a.k c.requires.1 (take-put_mid (8 - a.k) (8 - (8 - a.k)) _ c.copy_from_slice.new.self 8 (omega (arith, ap length p)) (omega arith))
    ∙ ap number p
