-- WHERE AN ADVANCEMENT BROKE (02, A5), for any hash H: the place that stands beside 9 and 10 is true, and no other answer of the check shows one.
use Rattle.std.specs.Prelude.{◌≡◌, refl, ◌≢◌, Bool, true, false, eqb, length, get_or, drop}
use Rattle.std.proofs.Common.{sym, ap, ◌∙◌, add-zero, zero-add, arith, lit≤, pow-add, length-drop, get_or-drop}
use mathlib.Core.List.{List, [], ◌∷◌}
use Prim.Native.Nat.{ℕ, suc, ◌+◌, ◌-◌, ◌/◌, ◌^◌, ◌≤◌, ◌<◌}
use Rattle.std.proofs.Math.Nat.{div-div-eq-div-mul}
use Rattle.lists.specs.Bytes.{Bytes, same}
use Rattle.lists.specs.Same.{same_true, same_false}
use Rattle.rules.specs.Numbers.{Version}
use Rattle.rules.specs.Paths.{hops, path_after}
use Rattle.rules.specs.Messages.{size, total, row, part}
use Rattle.rules.specs.Refusals.{state_broken, no_such_number, wrong_length, row_differs, link_differs}
use Rattle.rules.specs.Held.{Held, odd, is_in_order}
use Rattle.rules.specs.Checking.{Place, place, nowhere, Verdict, accepted, refused, must_at, upward, agrees, off_row, hopped, advance_walk, advance}
use Rattle.rules.specs.Calls.{advance_answer, advance_call}
use Rattle.rules.proofs.Carrying.{off_row_lem}
use Rattle.rules.proofs.Broken.{Refuses, own, later, refuses, From, before, walking, peel, at_end_lem, Breaks, Ends, last, bad}

-- where a walk stands: what is held, and where the next component begins
pub record Stage : Type 0 where
  pub held : Held
  pub next : ℕ

module _ (H : Bytes → Bytes) (v : Version) (p : Bytes) where
  -- a hop of level l: the element that it reaches, its component, and where the walk stands then
  abbrev pub reached : Stage → ℕ → ℕ
  reached s l = s.held.count + 2 ^ l

  abbrev pub there : Stage → ℕ → Bytes
  there s l = part v p s.next (reached s l)

  abbrev pub passed : Stage → ℕ → Stage
  passed s l = record { held = hopped H v s.held l p s.next; next = s.next + size v (reached s l) }

  abbrev pub RowsAgree : Stage → ℕ → Bool
  RowsAgree s l = agrees v l (s.held.count / 2 ^ l) (drop l s.held.rows) (there s l)

  -- a good one
  abbrev pub Agreed : Stage → ℕ → Type 0
  Agreed s l = (RowsAgree s l ≡ true) × (row v (there s l) (suc l) ≡ s.held.digest)

  -- a bad one by its rows, at the place w: the element reached, and the lowest row, from the level hopped up, that is not the component's link of the
  -- next level; it is in use, and so is each row that was compared before it
  pub record RowOff (w : Place) (s : Stage) (l : ℕ) : Type 0 where
    pub element : w.element ≡ reached s l
    pub high : l ≤ w.level
    pub among : w.level < length s.held.rows
    pub used : (c : ℕ) → l ≤ c → c ≤ w.level → odd (s.held.count / 2 ^ c) ≡ true
    pub differs : get_or s.held.rows w.level [] ≢ row v (there s l) (suc (suc w.level))
    pub lowest : (c : ℕ) → l ≤ c → c < w.level → get_or s.held.rows c [] ≡ row v (there s l) (suc (suc c))

  -- a bad one by its link, at the place w: the element reached and the level hopped; its rows are good
  pub record DigestOff (w : Place) (s : Stage) (l : ℕ) : Type 0 where
    pub named : w ≡ place (reached s l) l
    pub rows : RowsAgree s l ≡ true
    pub differs : row v (there s l) (suc l) ≢ s.held.digest

  abbrev pub AdvanceBreaks : (Stage → ℕ → Type 0) → Stage → List ℕ → ℕ → Type 0
  AdvanceBreaks Bad = Breaks passed Agreed Bad

  -- what is known of the row named, in the rows that are held
  row_off : (s : Stage) (l : ℕ) → RowsAgree s l ≡ false → RowOff (place (reached s l) (off_row v l (drop l s.held.rows) (there s l))) s l
  row_off s l e =
      let rs = s.held.rows in
      let f = off_row_lem v (there s l) (drop l rs) l (s.held.count / 2 ^ l) e in
      rw f.1 (record {
        element = refl;
        high = omega arith;
        among = let h = rw length-drop at f.2.there in omega arith;
        used = λ c lo hi. bit c lo (f.2.used (c - l) (omega arith));
        differs = λ d. f.2.differs (get_or-drop l rs f.0 [] ∙ d);
        lowest = λ c lo hi.
            let t : l + (c - l) ≡ c = omega arith in
            ap (λ (x : ℕ). get_or rs x []) (sym t)
            ∙ sym (get_or-drop l rs (c - l) [])
            ∙ f.2.before (c - l) (omega arith)
            ∙ ap (λ (x : ℕ). row v (there s l) (suc (suc x))) t;
      })
    where
      -- bit c of the count, counted from the level hopped
      bit : (c : ℕ) → l ≤ c → odd (s.held.count / 2 ^ l / 2 ^ (c - l)) ≡ true → odd (s.held.count / 2 ^ c) ≡ true
      bit c lo o =
          let t : l + (c - l) ≡ c = omega arith in
          ap (λ (x : ℕ). odd (s.held.count / 2 ^ x)) (sym t)
          ∙ ap (λ (x : ℕ). odd (s.held.count / x)) (pow-add 2 l (c - l))
          ∙ ap odd (sym (div-div-eq-div-mul s.held.count (2 ^ l) (2 ^ (c - l))))
          ∙ o

  -- what a walk that is refused at a bad hop broke by
  data Broke (num : ℕ) (w : Place) (s : Stage) (ls : List ℕ) (d : ℕ) : Type 0 where
    by_row : num ≡ row_differs → AdvanceBreaks (RowOff w) s ls d → Broke num w s ls d
    by_link : num ≡ link_differs → AdvanceBreaks (DigestOff w) s ls d → Broke num w s ls d

  walk_ends : (ls : List ℕ) (s : Stage) (D : Bytes) (k num m : ℕ) (w : Place) → advance_walk H v s.held ls p s.next D k ≡ refused num m w
      → Ends (Broke num w s ls) num w k m
  unfolding advance_walk Breaks
  walk_ends [] s D k num m w e = let f = at_end_lem (same s.held.digest D) k (k, s.held) num m w e in last (sym f.0) f.1
  walk_ends (l ∷ ls) s D k num m w e = rows (refuses (place (reached s l) off) (RowsAgree s l) row_differs k linked num m w e) (walk_ends ls (passed s l) D (suc k) num m w)
    where
      off : ℕ
      off = off_row v l (drop l s.held.rows) (there s l)

      rest : Verdict (ℕ × Held)
      rest = advance_walk H v (passed s l).held ls p (passed s l).next D (suc k)

      linked : Verdict (ℕ × Held)
      linked = must_at (place (reached s l) l) (same (row v (there s l) (suc l)) s.held.digest) link_differs k rest

      on : Agreed s l → Ends (Broke num w (passed s l) ls) num w (suc k) m → Ends (Broke num w s (l ∷ ls)) num w k m
      on g (last en ew) = last en ew
      on g (bad d em (by_row en f)) = bad (suc d) (omega (arith, em)) (by_row en (g, f))
      on g (bad d em (by_link en f)) = bad (suc d) (omega (arith, em)) (by_link en (g, f))

      link : RowsAgree s l ≡ true → Refuses (place (reached s l) l) (same (row v (there s l) (suc l)) s.held.digest) link_differs k rest num m w
          → (rest ≡ refused num m w → Ends (Broke num w (passed s l) ls) num w (suc k) m) → Ends (Broke num w s (l ∷ ls)) num w k m
      link r (own f en ek ew) ih = bad 0 (sym ek ∙ sym (add-zero k)) (by_link (sym en) (record { named = sym ew; rows = r; differs = same_false _ _ f }))
      link r (later t f) ih = on (r, same_true _ _ t) (ih f)

      rows : Refuses (place (reached s l) off) (RowsAgree s l) row_differs k linked num m w
          → (rest ≡ refused num m w → Ends (Broke num w (passed s l) ls) num w (suc k) m) → Ends (Broke num w s (l ∷ ls)) num w k m
      rows (own f en ek ew) ih = bad 0 (sym ek ∙ sym (add-zero k)) (by_row (sym en) (rw (← ew) (row_off s l f)))
      rows (later t f) ih = link t (refuses (place (reached s l) l) (same (row v (there s l) (suc l)) s.held.digest) link_differs k rest num m w f) ih

  -- where a walk begins: with the state held, at the first component
  abbrev pub begins : Held → Stage
  begins h = record { held = h; next = 0 }

  module _ (h : Held) (n : ℕ) (D : Bytes) where
    -- what a refusal of the check comes from
    abbrev Cause : ℕ → ℕ → Place → Type 0
    Cause num k w = From num w (Ends (Broke num w (begins h) (hops h.count n)) num w 0 k)

    caused : (num k : ℕ) (w : Place) → advance H v h n D p ≡ refused num k w → Cause num k w
    unfolding advance
    caused num k w =
        peel (is_in_order H v h) state_broken 0 _ num k w (lit≤ tt)
        (peel (upward v h.count n) no_such_number 0 _ num k w (lit≤ tt)
        (peel (eqb (length p) (total v (path_after h.count n))) wrong_length 0 _ num k w (lit≤ tt)
        (λ f. walking (walk_ends (hops h.count n) (begins h) D 0 num k w f))))

    -- WHERE AN ADVANCEMENT BROKE: beside 9 with k hops, the first k hops of the path are good, and of the rows that the one after them passes the lowest
    -- that differs is the one named, at the element that it reaches;
    pub advance_row_broke : (k : ℕ) (w : Place) → advance H v h n D p ≡ refused row_differs k w → AdvanceBreaks (RowOff w) (begins h) (hops h.count n) k
    advance_row_broke k w e = go (caused row_differs k w e)
      where
        go : Cause row_differs k w → AdvanceBreaks (RowOff w) (begins h) (hops h.count n) k
        go (before low f) = absurd (omega arith)
        go (walking (last en f)) = absurd (omega arith)
        go (walking (bad d em (by_row en f))) = rw (em ∙ zero-add d) f
        go (walking (bad d em (by_link en f))) = absurd (omega arith)

    -- beside 10, the rows that it passes are good and its link is not the digest held; the place is the element that it reaches, and its level.
    pub advance_link_broke : (k : ℕ) (w : Place) → advance H v h n D p ≡ refused link_differs k w → AdvanceBreaks (DigestOff w) (begins h) (hops h.count n) k
    advance_link_broke k w e = go (caused link_differs k w e)
      where
        go : Cause link_differs k w → AdvanceBreaks (DigestOff w) (begins h) (hops h.count n) k
        go (before low f) = absurd (omega arith)
        go (walking (last en f)) = absurd (omega arith)
        go (walking (bad d em (by_row en f))) = absurd (omega arith)
        go (walking (bad d em (by_link en f))) = rw (em ∙ zero-add d) f

    -- ALL OTHER ANSWERS of the check show no place.
    pub advance_bare : (advance_call H v h n D p).answer.number ≢ row_differs → (advance_call H v h n D p).answer.number ≢ link_differs
        → (advance_call H v h n D p).answer.place ≡ nowhere
    advance_bare = go (advance H v h n D p) refl
      where
        shown : (num k : ℕ) (w : Place) → num ≢ row_differs → num ≢ link_differs → Cause num k w → w ≡ nowhere
        shown num k w a b (before low f) = f
        shown num k w a b (walking (last en f)) = f
        shown num k w a b (walking (bad d em (by_row en f))) = absurd (a en)
        shown num k w a b (walking (bad d em (by_link en f))) = absurd (b en)

        go : (x : Verdict (ℕ × Held)) → advance H v h n D p ≡ x → (advance_answer h x).answer.number ≢ row_differs → (advance_answer h x).answer.number ≢ link_differs
            → (advance_answer h x).answer.place ≡ nowhere
        go (accepted m) f a b = refl
        go (refused num k w) f a b = shown num k w a b (caused num k w f)
