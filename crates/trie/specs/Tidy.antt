-- A lent list of handles below one node: whole rows, rising, and alike in the bits before the last e.
use Rattle.std.specs.Prelude.{◌≡◌, ◌≢◌, Bool, true, ◌&&◌, ℕ, ◌+◌, ◌-◌, ◌/◌, ◌%◌, ◌≤◌, leb, eqb, length}
use Rattle.std.proofs.Math.Bool.{and-eq-true_iff}
use Rattle.std.proofs.Common.{arith, eqb-true}
use Rattle.lists.specs.Bytes.{Bytes, AreBytes}
use Rattle.dictionary.specs.Handles.{side, rows_of, rising_from, listed}
use Rattle.dictionary.proofs.Rows.{all_map, rows_bytes_lem}
use Rattle.dictionary.proofs.Sides.{Near, Rises, rises}
use Rattle.dictionary.proofs.Bits.{row_below}

pub record Tidy (e : ℕ) (s : Bytes) : Type 0 where
  pub whole : length s % 32 ≡ 0
  pub before : ℕ
  pub near : Near e before (rows_of s)
  pub rising : Rises 0 (rows_of s)

-- a part r of s that is its side b
pub record Sided (b : Bool) (e : ℕ) (s r : Bytes) : Type 0 where
  pub rows : rows_of r ≡ side b e (rows_of s)
  pub tidy : Tidy e r

-- a list that is not empty has a first row
pub filled : (s : Bytes) → length s % 32 ≡ 0 → length s ≢ 0 → 32 ≤ length s
filled s w n = omega arith

pub tidy_below : (e : ℕ) (s : Bytes) → e ≢ 0 → Tidy e s → Tidy (e - 1 + 1) s
tidy_below e s n t = let k : e - 1 + 1 ≡ e = omega arith in rw k t

-- a list that may be used, below the root
pub tidy_all : (s : Bytes) → AreBytes s → listed s ≡ true → Tidy 256 s
unfolding listed
tidy_all s a h =
    let one = (and-eq-true_iff (eqb (length s % 32) 0) (leb (length s / 32) 1000 && rising_from 0 (rows_of s))).0 h in
    let two = (and-eq-true_iff (leb (length s / 32) 1000) (rising_from 0 (rows_of s))).0 one.1 in
    record {
      whole = eqb-true (length s % 32) 0 one.0;
      before = 0;
      near = all_map (λ x r. row_below x r) (rows_of s) (rows_bytes_lem (length s / 32) s (omega arith) a);
      rising = rises 0 (rows_of s) two.1;
    }
