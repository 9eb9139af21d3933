-- The theorems on hashing in pieces and at once.
use Rattle.std.specs.Prelude.{◌≡◌, cond, false, ℕ, ◌+◌, ◌/◌, ◌%◌, ◌≤◌, ◌<◌, eqb, length, Result, Ok}
use Rattle.std.proofs.Common.{sym, ap, ◌∙◌, arith, length-append}
use mathlib.Core.List.{List, [], ◌∷◌, ◌++◌, flatten, append_assoc, append-nil}
use Rattle.lists.specs.Bytes.{Bytes}
use Rattle.fips.specs.Sha256.{H0, padding, padded, chained, bytes_of, sha256}
use Rattle.sha256.specs.Stream.{limit, begun, absorbed, broken, taken, finished, hashed, taken_number, taken_state}
use Rattle.sha256.specs.Outcomes.{came_back, sound, finished_sound, taken_fits, taken_long, hashed_fits}
use Rattle.sha256.specs.Runs.{absorbed_append, run}
use Rattle.sha256.specs.declared.HashState.{HashState}
use Rattle.sha256.specs.declared.HashError.TheVariants.{TooLong}
use Rattle.sha256.specs.declared.Untaken.{Untaken}

-- after m, a begun state has counted its bytes
pub begun_total : (m : Bytes) → (absorbed begun m).total ≡ length m
unfolding begun
begun_total m = ap (λ (s : HashState). s.total) (run m H0 0) ∙ omega arith

pub begun_fill : (m : Bytes) → (absorbed begun m).fill ≡ length m % 64
unfolding begun
begun_fill m = ap (λ (s : HashState). s.fill) (run m H0 0)

pub begun_words : (m : Bytes) → (absorbed begun m).words ≡ chained H0 (length m / 64) m
unfolding begun
begun_words m = ap (λ (s : HashState). s.words) (run m H0 0)

-- a begun state that took no more than the limit is never bad
pub begun_sound : (m : Bytes) → length m ≤ limit → broken (absorbed begun m) ≡ false
begun_sound m h =
    let t = begun_total m in
    let f = begun_fill m in
    sound (absorbed begun m) (omega arith) (omega arith)

-- finished, it gives the digest of m by FIPS 180-4
pub begun_finished : (m : Bytes) → length m ≤ limit → finished (absorbed begun m) ≡ Ok (sha256 m)
unfolding sha256 padded
begun_finished m h =
    finished_sound (absorbed begun m) (begun_sound m h)
    ∙ ap (λ (s : HashState). Ok (bytes_of s.words))
    (ap (λ (n : ℕ). absorbed (absorbed begun m) (padding n)) (begun_total m) ∙ sym (absorbed_append begun m (padding (length m))))
    ∙ ap (λ w. Ok (bytes_of w)) (begun_words (m ++ padding (length m)))

-- it takes one piece more where the limit allows it, and refuses it else
module _ (m x : Bytes) (h : length m ≤ limit) where
  pub more_fits : length m + length x ≤ limit → taken (absorbed begun m) x ≡ Ok (absorbed begun (m ++ x))
  more_fits k =
      let t = begun_total m in
      taken_fits (absorbed begun m) x (begun_sound m h) (omega arith) ∙ ap (λ (s : HashState). Ok s) (sym (absorbed_append begun m x))

  pub more_long : limit < length m + length x → taken (absorbed begun m) x ≡ came_back TooLong (absorbed begun m)
  more_long k =
      let t = begun_total m in
      taken_long (absorbed begun m) x (begun_sound m h) (omega arith)

-- pieces taken one after another, up to the first that is refused
unfoldable pub taken_all : HashState → List Bytes → Result HashState Untaken
taken_all s [] = Ok s
taken_all s (p ∷ ps) = cond (eqb (taken_number (taken s p)) 0) (taken_all (taken_state (taken s p)) ps) (taken s p)

all_taken : (ps : List Bytes) (m : Bytes) → length m + length (flatten ps) ≤ limit
    → taken_all (absorbed begun m) ps ≡ Ok (absorbed begun (m ++ flatten ps))
unfolding taken_all flatten
all_taken [] m h = ap (λ (x : Bytes). Ok (absorbed begun x)) (sym (append-nil m))
all_taken (p ∷ ps) m h =
    let l = length-append p (flatten ps) in
    let k = length-append m p in
    rw (more_fits m p (omega arith) (omega arith), ← append_assoc m p (flatten ps)) (all_taken ps (m ++ p) (omega arith))

-- However a message of up to 65,536 bytes is cut into pieces, a begun state takes them all.
pub cut_taken : (ps : List Bytes) → length (flatten ps) ≤ limit → taken_all begun ps ≡ Ok (absorbed begun (flatten ps))
unfolding absorbed
cut_taken ps h = all_taken ps [] (omega arith)

-- And finished it gives the digest of the message by FIPS 180-4.
pub cut_finished : (ps : List Bytes) → length (flatten ps) ≤ limit → finished (taken_state (taken_all begun ps)) ≡ Ok (sha256 (flatten ps))
cut_finished ps h = ap (λ (t : Result HashState Untaken). finished (taken_state t)) (cut_taken ps h) ∙ begun_finished (flatten ps) h

-- Hashing at once gives the same.
pub at_once : (ps : List Bytes) → length (flatten ps) ≤ limit → hashed (flatten ps) ≡ finished (taken_state (taken_all begun ps))
at_once ps h = hashed_fits (flatten ps) h ∙ sym (cut_finished ps h)
