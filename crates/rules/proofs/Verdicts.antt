-- What passing and failing checks say of a verdict, what the asked numbers satisfy, and that an element's message tells its component.
use Rattle.std.specs.Prelude.{◌≡◌, refl, Bool, true, false, ◌&&◌, [], ◌∷◌, ◌++◌, ℕ, ◌≤◌, leb}
use Rattle.std.proofs.Common.{true≢false, arith, leb-true, le-leb}
use Rattle.std.proofs.lemmas.Bool.{false≢true}
use Rattle.std.proofs.Math.Bool.{and-eq-true_iff}
use Rattle.lists.specs.Bytes.{Bytes}
use Rattle.rules.specs.Numbers.{Version, limit}
use Rattle.rules.specs.Messages.{element_head, element_msg}
use Rattle.rules.specs.Checking.{Place, nowhere, Verdict, accepted, refused, must_at, must, is_accepted, between, upward}

-- ---- checks

module _ {A : Type 0} where
  module _ (w : Place) (b : Bool) (num k : ℕ) where
    -- Where the verdict is accepted, the check passed, and what comes after it is accepted.
    pub must_at_accepted : (m : A) (x : Verdict A) → must_at w b num k x ≡ accepted m → (b ≡ true) × (x ≡ accepted m)
    must_at_accepted m x = go b
      where
        go : (c : Bool) → must_at w c num k x ≡ accepted m → (c ≡ true) × (x ≡ accepted m)
        go true e = (refl, e)
        go false e = let z : ◌≡◌ {A = ℕ} 0 1 = cc in absurd (omega arith)

    -- A check that passes leaves the verdict to what comes after it.
    pub must_at_go : (x : Verdict A) → b ≡ true → must_at w b num k x ≡ x
    must_at_go x e = rw e

    -- A check that fails decides.
    pub must_at_stop : (x : Verdict A) → b ≡ false → must_at w b num k x ≡ refused num k w
    must_at_stop x e = rw e

  -- The same of the checks that show no place.
  module _ (b : Bool) (num k : ℕ) where
    pub must_accepted : (m : A) (x : Verdict A) → must b num k x ≡ accepted m → (b ≡ true) × (x ≡ accepted m)
    must_accepted = must_at_accepted nowhere b num k

    pub must_go : (x : Verdict A) → b ≡ true → must b num k x ≡ x
    must_go = must_at_go nowhere b num k

  -- A verdict that tests as accepted has something that was accepted.
  pub accepted_some : (x : Verdict A) → is_accepted x ≡ true → (m : A) × (x ≡ accepted m)
  accepted_some (accepted m) e = (m, refl)
  accepted_some (refused num k w) e = absurd (false≢true e)

  -- A verdict that tests as not accepted is a refusal.
  pub refused_some : (x : Verdict A) → is_accepted x ≡ false → (num k : ℕ) × (w : Place) × (x ≡ refused num k w)
  refused_some (accepted m) e = absurd (true≢false e)
  refused_some (refused num k w) e = (num, k, w, refl)

-- ---- the numbers that are asked for

module _ (v : Version) (i n : ℕ) where
  -- Numbers that a membership check takes are 1 ≤ i ≤ n ≤ limit.
  pub between_true : between v i n ≡ true → (1 ≤ i) × (i ≤ n) × (n ≤ limit v)
  between_true e =
      let h = (and-eq-true_iff (leb 1 i) (leb i n && leb n (limit v))).0 e in
      let k = (and-eq-true_iff (leb i n) (leb n (limit v))).0 h.1 in
      (leb-true 1 i h.0, leb-true i n k.0, leb-true n (limit v) k.1)

  -- Numbers that an advancement check takes are i ≤ n ≤ limit.
  pub upward_true : upward v i n ≡ true → (i ≤ n) × (n ≤ limit v)
  upward_true e = let h = (and-eq-true_iff (leb i n) (leb n (limit v))).0 e in (leb-true i n h.0, leb-true n (limit v) h.1)

  -- Such numbers are taken,
  pub upward_test : i ≤ n → n ≤ limit v → upward v i n ≡ true
  upward_test h k = (and-eq-true_iff (leb i n) (leb n (limit v))).1 (le-leb i n h, le-leb n (limit v) k)

  -- and for membership too, from 1 up.
  pub between_test : 1 ≤ i → i ≤ n → n ≤ limit v → between v i n ≡ true
  between_test l h k = (and-eq-true_iff (leb 1 i) (upward v i n)).1 (le-leb 1 i l, upward_test h k)

-- ---- messages

-- What stands behind the same front is the same.
pub append_cancel : (a b c : Bytes) → a ++ b ≡ a ++ c → b ≡ c
append_cancel [] b c e = e
append_cancel (x ∷ xs) b c e = append_cancel xs b c (cc)

-- Two equal messages of element j have the same component.
pub element_inj : (j : ℕ) (c d : Bytes) → element_msg j c ≡ element_msg j d → c ≡ d
unfolding element_msg
element_inj j c d e = append_cancel (element_head j) c d e
