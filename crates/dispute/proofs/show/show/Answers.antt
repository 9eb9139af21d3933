-- `dispute::show::show` meets its contract: two strings laid one behind the other are one.
use mathlib.Core.Path.{◌≡◌, sym, ap, ap₂, ◌∙◌}
use mathlib.Core.List.{◌++◌}
use Prim.Native.Nat.{ℕ, ◌+◌}
use native.Mathlib.Nat.{zero-add}
use lib.ListN.{length, take, drop, length-append}
use lib.Seq.{paste, take-length, take-append_seam, drop-append-add, drop-drop}
use Rattle.lists.specs.Bytes.{Bytes}
use Rattle.rules.specs.Calls.{over}
use Rattle.dispute.proofs.show.show.Goals as goal

joined : (s head body x y : Bytes) → x ≡ paste s 0 head (length head) → y ≡ paste x (length head) body (length body) → y ≡ over (head ++ body) s
joined s head body x y ex ey =
    let h = length head in
    let b = length body in
    let r = drop (0 + h) s in
    let first : x ≡ head ++ r = ex ∙ ap (λ (z : Bytes). z ++ r) (take-length head) in
    let tail : drop (h + b) (head ++ r) ≡ drop (length (head ++ body)) s =
    drop-append-add head r b ∙ drop-drop b (0 + h) s ∙ ap (λ (k : ℕ). drop k s) (ap (λ (k : ℕ). k + b) (zero-add h) ∙ sym (length-append head body)) in
    ey
    ∙ ap (λ (z : Bytes). take h z ++ take b body ++ drop (h + b) z) first
    ∙ ap₂ (λ (w z : Bytes). w ++ z ++ drop (h + b) (head ++ r)) (take-append_seam head r) (take-length body)
    ∙ ap (λ (z : Bytes). head ++ body ++ z) tail

pub returns : goal.returns
returns c =
    let a = c.args in
    joined a.out.now a.head.now a.body.now _ _ c.lay.ensures c.lay-2.ensures
