-- `standin::stir` meets its contract: what is left is stirred into what there is.
use Rattle.std.proofs.Common.{◌≡◌, ◌+◌, ◌%◌, ◌≤◌, ◌<◌, ℕ, refl, sym, ◌∙◌, add-one, arith, rules, length, get_or, drop, drop-cons, drop_of_length-le, length-set}
use Rattle.lists.specs.Bytes.{Bytes}
use Rattle.standin.specs.Stirred.{xor_at, stirred}
use Rattle.standin.proofs.stir.Goals as goal

-- one byte of the definition, at the code's index
step : (s out : Bytes) (k i : ℕ) → i < length s → stirred k out (drop i s) ≡ stirred ((k + 1) % 32) (xor_at k out (get_or s i 0)) (drop (i + 1) s)
unfolding stirred
step s out k i h = rw (drop-cons s i 0 h, add-one i)

done : (s out : Bytes) (k i : ℕ) → length s ≤ i → stirred k out (drop i s) ≡ out
unfolding stirred
done s out k i h = rw (drop_of_length-le s {i = i} h)

pub loop-byte-init : goal.loop-byte-init
loop-byte-init c = (omega arith, search rules, refl)

pub loop-byte-preserved : goal.loop-byte-preserved
loop-byte-preserved c =
    let l = c.loop-byte in
    let a = c.args in
    (omega arith, simp length-set l.invariant.1, l.invariant.2 ∙ step a.s.now l.out l.k _ (omega arith))

pub returns : goal.returns
returns c =
    let l = c.loop-byte in
    sym (l.invariant.2 ∙ done c.args.s.now l.out l.k _ c.loop-byte-test.false)
