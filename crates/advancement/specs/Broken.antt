-- WHERE AN ADVANCEMENT BROKE, from the contract of `check_advancement` alone.
use Rattle.std.specs.Prelude.{Err, ◌≡◌, ℕ, ◌≤◌}
use Rattle.std.proofs.Common.{sym, ap, ◌∙◌, arith, lit≤}
use Rattle.lists.specs.Bytes.{Bytes}
use Rattle.hash.specs.Hash.{hash_of}
use Rattle.hash.specs.declared.Digest.{Digest}
use Rattle.path.specs.declared.Length.{Length}
use Rattle.rules.specs.Numbers.{v1}
use Rattle.rules.specs.Paths.{hops}
use Rattle.rules.specs.Refusals.{row_differs, link_differs}
use Rattle.rules.specs.Held as rules
use Rattle.rules.specs.Checking.{Place, place, Verdict, accepted, refused, advance}
use Rattle.rules.specs.Calls as calls
use Rattle.rules.proofs.BrokenAdvance.{AdvanceBreaks, RowOff, DigestOff, begins, advance_row_broke, advance_link_broke}
use Rattle.held.specs.declared.Held.{Held}
use Rattle.held.specs.Holding.{holds}
use Rattle.advancement.specs.declared.AdvanceError.TheVariants.{RowDiffers, LinkDiffers}
use Rattle.advancement.specs.Advancing.{Advanced, answer_of}
use Rattle.advancement.specs.Advances.{Answers}

module _ (h : Held) (n : Length) (D : Digest) (p : Bytes) (r : Advanced) (e : Answers h n D p r) where
  -- the rules refuse what the code refuses, with the same number, hops and place
  refused_is : (num k : ℕ) (w : Place) → 1 ≤ num → answer_of r.verdict ≡ record { number = num; value = k; place = w }
      → advance hash_of v1 (holds h) n.0 D.bytes p ≡ refused num k w
  refused_is num k w low a = go (advance hash_of v1 (holds h) n.0 D.bytes p) (sym (ap (λ (o : calls.Advanced). o.answer) e) ∙ a)
    where
      go : (x : Verdict (ℕ × rules.Held)) → (calls.advance_answer (holds h) x).answer ≡ record { number = num; value = k; place = w } → x ≡ refused num k w
      go (accepted m) q = let z : 0 ≡ num = ap (λ (y : calls.Answer). y.number) q in absurd (omega arith)
      go (refused num' k' w') q = ap (λ (y : calls.Answer). refused y.number y.value y.place) q

  -- Where the check answers RowDiffers with k hops, an element and a row, the first k hops of the path are good; the next one reaches that element, and of
  -- the rows that it passes that one is the lowest that is not the link there.
  pub row_broke : (k element row : ℕ) → r.verdict ≡ Err (RowDiffers k element row)
      → AdvanceBreaks hash_of v1 p (RowOff hash_of v1 p (place element row)) (begins hash_of v1 p (holds h)) (hops h.count.0 n.0) k
  row_broke k element row a =
      advance_row_broke hash_of v1 p (holds h) n.0 D.bytes k (place element row) (refused_is row_differs k (place element row) (lit≤ tt) (ap answer_of a))

  -- Where it answers LinkDiffers, the rows that the next hop passes are good, and its link is not the digest held.
  pub link_broke : (k element level : ℕ) → r.verdict ≡ Err (LinkDiffers k element level)
      → AdvanceBreaks hash_of v1 p (DigestOff hash_of v1 p (place element level)) (begins hash_of v1 p (holds h)) (hops h.count.0 n.0) k
  link_broke k element level a =
      advance_link_broke hash_of v1 p (holds h) n.0 D.bytes k (place element level) (refused_is link_differs k (place element level) (lit≤ tt) (ap answer_of a))
