-- What each call gives, told by its tests.
use Rattle.std.specs.Prelude.{◌≡◌, refl, Bool, true, false, cond, not, ◌||◌, ℕ, ◌+◌, ◌%◌, ◌≤◌, ◌<◌, ltb, eqb, Result, Ok, Err}
use Rattle.std.proofs.Common.{◌∙◌, arith}
use borrow.Author.Tests.{le-ltb, lt-ltb, ltb-false, eq-eqb, ne_eqb, eqb-true}
use Rattle.std.proofs.Math.ListN.{length}
use Rattle.lists.specs.Bytes.{Bytes}
use Rattle.fips.specs.Sha256.{padding, bytes_of, sha256}
use Rattle.sha256.specs.Stream.{limit, absorbed, broken, taken, finished, hashed, taken_number, taken_state}
use Rattle.sha256.specs.declared.HashState.{HashState}
use Rattle.sha256.specs.declared.HashError.{HashError}
use Rattle.sha256.specs.declared.HashError.TheVariants.{StateBroken, TooLong}
use Rattle.sha256.specs.declared.Untaken.{Untaken}

-- a refusal, with the state as it came
abbrev pub came_back : HashError → HashState → Result HashState Untaken
came_back e s = Err (record { error = e; state = s })

neither : (a b : Bool) → (not a || b) ≡ false → (a ≡ true) × (b ≡ false)
neither true b e = (refl, e)
neither false b e = let z : ◌≡◌ {A = ℕ} 0 1 = cc in absurd (omega arith)

module _ (s : HashState) where
  pub broken_fill : (s.fill ≡ s.total % 64 → ⊥) → broken s ≡ true
  unfolding broken
  broken_fill h = rw (ne_eqb s.fill (s.total % 64) h)

  pub broken_total : s.fill ≡ s.total % 64 → broken s ≡ ltb limit s.total
  unfolding broken
  broken_total e = rw (eq-eqb s.fill (s.total % 64) e)

  pub sound : s.fill ≡ s.total % 64 → s.total ≤ limit → broken s ≡ false
  sound e h = broken_total e ∙ le-ltb limit s.total h

  pub sound_facts : broken s ≡ false → (s.fill ≡ s.total % 64) × (s.total ≤ limit)
  unfolding broken
  sound_facts b =
      let p = neither (eqb s.fill (s.total % 64)) (ltb limit s.total) b in
      (eqb-true s.fill (s.total % 64) p.0, ltb-false limit s.total p.1)

  pub finished_broken : broken s ≡ true → finished s ≡ Err StateBroken
  unfolding finished
  finished_broken b = rw b

  pub finished_sound : broken s ≡ false → finished s ≡ Ok (bytes_of (absorbed s (padding s.total)).words)
  unfolding finished
  finished_sound b = rw b

  module _ (m : Bytes) where
    pub taken_broken : broken s ≡ true → taken s m ≡ came_back StateBroken s
    unfolding taken
    taken_broken b = rw b

    pub taken_long : broken s ≡ false → limit < s.total + length m → taken s m ≡ came_back TooLong s
    unfolding taken
    taken_long b h = rw (b, lt-ltb limit (s.total + length m) h)

    pub taken_fits : broken s ≡ false → s.total + length m ≤ limit → taken s m ≡ Ok (absorbed s m)
    unfolding taken
    taken_fits b h = rw (b, le-ltb limit (s.total + length m) h)

kept : (b d : Bool) (s u : HashState) → (taken_number (cond b (came_back StateBroken s) (cond d (came_back TooLong s) (Ok u))) ≡ 0 → ⊥)
    → taken_state (cond b (came_back StateBroken s) (cond d (came_back TooLong s) (Ok u))) ≡ s
kept true d s u h = refl
kept false true s u h = refl
kept false false s u h = absurd (h refl)

-- a refused state is as it came
pub taken_refused : (s : HashState) (m : Bytes) → (taken_number (taken s m) ≡ 0 → ⊥) → taken_state (taken s m) ≡ s
unfolding taken
taken_refused s m h = kept (broken s) (ltb limit (s.total + length m)) s (absorbed s m) h

pub hashed_long : (m : Bytes) → limit < length m → hashed m ≡ Err TooLong
unfolding hashed
hashed_long m h = rw (lt-ltb limit (length m) h)

pub hashed_fits : (m : Bytes) → length m ≤ limit → hashed m ≡ Ok (sha256 m)
unfolding hashed
hashed_fits m h = rw (le-ltb limit (length m) h)
