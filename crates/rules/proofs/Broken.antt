-- WHERE A MEMBERSHIP PROOF BROKE (02, A5), for any hash H: the place that stands beside 10 is true, and no other answer of the check shows one. With what
-- an advancement has in common with it: a refusal by the check that it comes from, and the first bad hop.
use Rattle.std.specs.Prelude.{◌≡◌, refl, ◌≢◌, Bool, true, false, leb, eqb, length}
use Rattle.std.proofs.Common.{sym, ◌∙◌, add-zero, zero-add, arith, lit≤}
use mathlib.Core.List.{List, [], ◌∷◌}
use Prim.Native.Nat.{ℕ, zero, suc, ◌+◌, ◌^◌, ◌<◌}
use Rattle.lists.specs.Bytes.{Bytes, same}
use Rattle.lists.specs.Same.{same_true, same_false}
use Rattle.rules.specs.Numbers.{Version, entry_limit}
use Rattle.rules.specs.Paths.{hops, path}
use Rattle.rules.specs.Messages.{entry_msg, size, total, row, part}
use Rattle.rules.specs.Refusals.{too_long, no_such_number, wrong_length, other_entry, row_differs, link_differs, digest_differs}
use Rattle.rules.specs.Checking.{Place, place, nowhere, Verdict, accepted, refused, must_at, must, between, digest_at, walk, member}
use Rattle.rules.specs.Calls.{member_answer, member_call}

-- ---- a refusal, by the check that it comes from

module _ {A : Type 0} (w : Place) (b : Bool) (num k : ℕ) (x : Verdict A) (num' k' : ℕ) (w' : Place) where
  -- it is the check's own, or that of what comes after a check that passed
  pub data Refuses : Type 0 where
    own : b ≡ false → num ≡ num' → k ≡ k' → w ≡ w' → Refuses
    later : b ≡ true → x ≡ refused num' k' w' → Refuses

  pub refuses : must_at w b num k x ≡ refused num' k' w' → Refuses
  refuses = go b refl
    where
      go : (c : Bool) → b ≡ c → must_at w c num k x ≡ refused num' k' w' → Refuses
      go true f e = later f e
      go false f e = own f (cc) (cc) (cc)

-- what a refusal comes from: a check before the walk, which shows no place, or the walk, of which X is known
pub data From (num : ℕ) (w : Place) (X : Type 0) : Type 0 where
  before : num < row_differs → w ≡ nowhere → From num w X
  walking : X → From num w X

-- a check before the walk, and the ones behind it
pub peel : {A X : Type 0} (b : Bool) (num k : ℕ) (x : Verdict A) (num' k' : ℕ) (w' : Place) → num < row_differs → (x ≡ refused num' k' w' → From num' w' X)
    → must b num k x ≡ refused num' k' w' → From num' w' X
peel {A} {X} b num k x num' k' w' low rest e = go (refuses nowhere b num k x num' k' w' e)
  where
    go : Refuses nowhere b num k x num' k' w' → From num' w' X
    go (own f en ek ew) = before (rw (← en) low) (sym ew)
    go (later t f) = rest f

-- no walk is refused at its end but by the last digest, which shows no place
pub at_end_lem : {A : Type 0} (b : Bool) (k : ℕ) (m : A) (num k' : ℕ) (w : Place) → must b digest_differs k (accepted m) ≡ refused num k' w → (digest_differs ≡ num) × (w ≡ nowhere)
at_end_lem true k m num k' w e = let z : ◌≡◌ {A = ℕ} 0 1 = cc in absurd (omega arith)
at_end_lem false k m num k' w e = (cc, cc)

-- ---- the first bad hop

-- Hops of the levels ls from a state s, where `step` is the state after a hop, and Good and Bad are what is found of one: k hops are good, and the one
-- after them, from the state that they lead to, is bad.
module _ {S : Type 0} (step : S → ℕ → S) (Good Bad : S → ℕ → Type 0) where
  unfoldable pub Breaks : S → List ℕ → ℕ → Type 0
  Breaks s [] k = ⊥
  Breaks s (l ∷ ls) zero = Bad s l
  Breaks s (l ∷ ls) (suc k) = Good s l × Breaks (step s l) ls k

-- what a walk that is refused with num at w, with m hops good, comes to from where k are: the last digest, which shows no place, or a bad hop behind d good
-- ones, of which X is known
pub data Ends (X : ℕ → Type 0) (num : ℕ) (w : Place) (k m : ℕ) : Type 0 where
  last : num ≡ digest_differs → w ≡ nowhere → Ends X num w k m
  bad : (d : ℕ) → m ≡ k + d → X d → Ends X num w k m

-- ---- membership

-- where a walk stands: an element, the digest computed for it, and where the next component begins
pub record Stand : Type 0 where
  pub at : ℕ
  pub digest : Bytes
  pub next : ℕ

module _ (H : Bytes → Bytes) (v : Version) (p : Bytes) where
  -- a hop of level l: the link of that level in the component of the element that it reaches, and where the walk stands then
  abbrev pub link_there : Stand → ℕ → Bytes
  link_there s l = row v (part v p s.next (s.at + 2 ^ l)) (suc l)

  abbrev pub onward : Stand → ℕ → Stand
  onward s l = let to = s.at + 2 ^ l in record { at = to; digest = digest_at H v p s.next to; next = s.next + size v to }

  -- a good one
  abbrev pub Linked : Stand → ℕ → Type 0
  Linked s l = link_there s l ≡ s.digest

  -- a bad one, at the place w: the element reached and the level hopped
  pub record LinkOff (w : Place) (s : Stand) (l : ℕ) : Type 0 where
    pub named : w ≡ place (s.at + 2 ^ l) l
    pub differs : link_there s l ≢ s.digest

  abbrev pub LinkBreaks : Place → Stand → List ℕ → ℕ → Type 0
  LinkBreaks w = Breaks onward Linked (LinkOff w)

  -- where a walk begins: at i, behind the first component
  abbrev pub begun : ℕ → Stand
  begun i = record { at = i; digest = digest_at H v p 0 i; next = size v i }

  walk_ends : (ls : List ℕ) (s : Stand) (D : Bytes) (k num m : ℕ) (w : Place) → walk H v s.at s.digest ls p s.next D k ≡ refused num m w
      → Ends (λ d. (num ≡ link_differs) × LinkBreaks w s ls d) num w k m
  unfolding walk Breaks
  walk_ends [] s D k num m w e = let f = at_end_lem (same s.digest D) k k num m w e in last (sym f.0) f.1
  walk_ends (l ∷ ls) s D k num m w e = go (refuses (place (s.at + 2 ^ l) l) (same (link_there s l) s.digest) link_differs k rest num m w e) (walk_ends ls (onward s l) D (suc k) num m w)
    where
      rest : Verdict ℕ
      rest = walk H v (onward s l).at (onward s l).digest ls p (onward s l).next D (suc k)

      on : Linked s l → Ends (λ d. (num ≡ link_differs) × LinkBreaks w (onward s l) ls d) num w (suc k) m → Ends (λ d. (num ≡ link_differs) × LinkBreaks w s (l ∷ ls) d) num w k m
      on g (last en ew) = last en ew
      on g (bad d em f) = bad (suc d) (omega (arith, em)) (f.0, (g, f.1))

      go : Refuses (place (s.at + 2 ^ l) l) (same (link_there s l) s.digest) link_differs k rest num m w
          → (rest ≡ refused num m w → Ends (λ d. (num ≡ link_differs) × LinkBreaks w (onward s l) ls d) num w (suc k) m) → Ends (λ d. (num ≡ link_differs) × LinkBreaks w s (l ∷ ls) d) num w k m
      go (own f en ek ew) ih = bad 0 (sym ek ∙ sym (add-zero k)) (sym en, record { named = sym ew; differs = same_false _ _ f })
      go (later t f) ih = on (same_true _ _ t) (ih f)

  module _ (e : Bytes) (i n : ℕ) (D : Bytes) where
    -- what a refusal of the check comes from
    abbrev Cause : ℕ → ℕ → Place → Type 0
    Cause num k w = From num w (Ends (λ d. (num ≡ link_differs) × LinkBreaks w (begun i) (hops i n) d) num w 0 k)

    caused : (num k : ℕ) (w : Place) → member H v e i n D p ≡ refused num k w → Cause num k w
    unfolding member
    caused num k w =
        peel (leb (length e) entry_limit) too_long 0 _ num k w (lit≤ tt)
        (peel (between v i n) no_such_number 0 _ num k w (lit≤ tt)
        (peel (eqb (length p) (total v (path i n))) wrong_length 0 _ num k w (lit≤ tt)
        (peel (same (row v (part v p 0 i) 0) (H (entry_msg e))) other_entry 0 _ num k w (lit≤ tt)
        (λ f. walking (walk_ends (hops i n) (begun i) D 0 num k w f)))))

    -- WHERE A MEMBERSHIP PROOF BROKE: beside 10 with k hops, the first k hops of the path are good, and the link of the one after them is not the
    -- digest computed before it; the place is the element that this hop reaches, and its level.
    pub member_broke : (k : ℕ) (w : Place) → member H v e i n D p ≡ refused link_differs k w → LinkBreaks w (begun i) (hops i n) k
    member_broke k w h = go (caused link_differs k w h)
      where
        go : Cause link_differs k w → LinkBreaks w (begun i) (hops i n) k
        go (before low f) = absurd (omega arith)
        go (walking (last en f)) = absurd (omega arith)
        go (walking (bad d em f)) = rw (em ∙ zero-add d) f.1

    -- ALL OTHER ANSWERS of the check show no place.
    pub member_bare : (member_call H v e i n D p).number ≢ link_differs → (member_call H v e i n D p).place ≡ nowhere
    member_bare = go (member H v e i n D p) refl
      where
        shown : (num k : ℕ) (w : Place) → num ≢ link_differs → Cause num k w → w ≡ nowhere
        shown num k w ne (before low f) = f
        shown num k w ne (walking (last en f)) = f
        shown num k w ne (walking (bad d em f)) = absurd (ne f.0)

        go : (x : Verdict ℕ) → member H v e i n D p ≡ x → (member_answer x).number ≢ link_differs → (member_answer x).place ≡ nowhere
        go (accepted m) f ne = refl
        go (refused num k w) f ne = shown num k w ne (caused num k w f)
