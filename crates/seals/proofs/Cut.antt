-- A log that was accepted, cut off: between two entries the answer is 25, and within an entry 24 with its number. For any hash H of 32 bytes.
use Rattle.std.specs.Prelude.{◌≡◌, refl, Bool, false, List, [], ◌∷◌, ◌++◌, ℕ, zero, suc, ◌+◌, ◌≤◌, ◌<◌, length, take, drop}
use Rattle.std.proofs.Common.{sym, ap, ◌∙◌, append-nil, arith, length-append, length-drop, length-take-le}
use Rattle.std.proofs.lemmas.List.{take-append-le, drop-append-le}
use Rattle.lists.specs.Bytes.{Bytes, zeros, number}
use Rattle.rules.specs.Calls.{refuses}
use Rattle.seals.specs.Chain.{chained, next_key, stored}
use Rattle.seals.specs.Refusals.{not_closed}
use Rattle.seals.specs.Calls.{size_of, wrong_at, check_call}
use Rattle.seals.specs.Entries.{Entry, closes, log_of, entry_at, key_at, chain_to, Obeys, ends}
use Rattle.seals.proofs.Reading.{stored_length, size_read}
use Rattle.seals.proofs.Walked.{seal_length}
use Rattle.seals.proofs.Acceptance.{Sound, fits_at}
use Rattle.seals.proofs.Learnt.{is_wrong, is_unclosed}

-- the length of an entry's data stands in its first six bytes
size_in : (p t : Bytes) → 6 ≤ length p → size_of (p ++ t) ≡ size_of p
size_in p t h =
    ap (λ (x : Bytes). number (take 2 x)) (drop-append-le 4 p t (omega arith))
    ∙ ap number (take-append-le 2 (drop 4 p) t (omega (arith, length-drop 4 p)))

module _ (H : Bytes → Bytes) (sized : (m : Bytes) → length (H m) ≡ 32) where
  -- the first k of entries that obey the rules obey them, and where there are more, none of the first k closes
  obeys_front : (k : ℕ) (es : List Entry) (a y : Bytes) (closed : Bool) → Obeys H a y closed es → Obeys H a y closed (take k es)
  obeys_front zero es a y closed o = tt
  obeys_front (suc k) [] a y closed o = tt
  obeys_front (suc k) (e ∷ es) a y closed o =
      (o.0, o.1, obeys_front k es (next_key H a) (chained H y e.kind e.text) (closes e) o.2)

  ends_front : (k : ℕ) (es : List Entry) (a y : Bytes) (closed : Bool) → Obeys H a y closed es → k < length es → ends closed (take k es) ≡ false
  ends_front zero [] a y closed o h = absurd (omega arith)
  ends_front zero (e ∷ es) a y closed o h = o.0
  ends_front (suc k) [] a y closed o h = absurd (omega arith)
  ends_front (suc k) (e ∷ es) a y closed o h = ends_front k es (next_key H a) (chained H y e.kind e.text) (closes e) o.2 (omega arith)

  module _ (first log : Bytes) (n : ℕ) (s : Sound H sized first log n) (k : ℕ) (h : k < n) where
    -- CUT OFF BETWEEN TWO ENTRIES, so without the closing one, the log is 25.
    pub cut_between : check_call H first (log_of (take k s.entries)) ≡ refuses not_closed
    cut_between =
        is_unclosed H sized first (log_of (take k s.entries))
        (record {
          entries = take k s.entries;
          bytes = refl;
          obeys = obeys_front k s.entries first zeros false s.obeys;
          none_closes = ends_front k s.entries first zeros false s.obeys (omega (arith, s.count));
        })

    -- CUT OFF WITHIN AN ENTRY, of which p is left, the log is 24 with the number of that entry.
    pub cut_within : (p t : Bytes) →
        let e = entry_at s.entries k in
        p ++ t ≡ stored e.kind e.text e.seal → 0 < length p → 0 < length t → check_call H first (log_of (take k s.entries) ++ p) ≡ wrong_at k
    cut_within p t whole hp ht =
        is_wrong H sized first (log_of (take k s.entries) ++ p) k
        (record {
          entries = take k s.entries;
          rest = p;
          bytes = refl;
          count = length-take-le k s.entries (omega (arith, s.count));
          obeys = obeys_front k s.entries first zeros false s.obeys;
          more = hp;
          wrong = λ g. short g.shape.head g.shape.whole;
        })
      where
        e : Entry
        e = entry_at s.entries k

        short : 6 ≤ length p → 38 + size_of p ≤ length p → ⊥
        short head fits =
            let f = fits_at H sized s.entries first zeros false s.obeys k (omega (arith, s.count)) in
            let seal : length e.seal ≡ 32 = ap length f.sealed ∙ seal_length H sized (key_at H first k) (chained H (chain_to H zeros s.entries k) e.kind e.text) in
            let all = ap length whole ∙ stored_length e.kind e.text e.seal seal in
            let size : size_of p ≡ length e.text =
            sym (size_in p t head) ∙ ap size_of (whole ∙ sym (append-nil (stored e.kind e.text e.seal)))
            ∙ size_read e.kind e.text e.seal seal [] f.short in
            omega (arith, all, size, length-append p t)
