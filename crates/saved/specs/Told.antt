-- The number for each answer, with the file's size or the state that is read, and back: telling loses nothing.
use Rattle.std.specs.Prelude.{◌≡◌, refl, cond, ℕ, ◌≤◌, eqb, Result, Ok, Err}
use Rattle.std.proofs.Common.{ap, lit≤}
use Rattle.rules.specs.Numbers.{v1}
use Rattle.rules.specs.Refusals.{done, state_broken, output_short}
use Rattle.rules.specs.Held.{held_zeros}
use Rattle.rules.specs.Calls.{Answer, gives, refuses, HeldFound, held_found}
use Rattle.held.specs.Holding.{holds, held_from, held_back}
use Rattle.held.specs.declared.Held.{Held}
use Rattle.file_form.specs.Refusals.{file_short, mark_wrong, version_wrong, count_over, length_wrong}
use Rattle.saved.specs.declared.SaveError.{SaveError}
use Rattle.saved.specs.declared.SaveError.TheVariants as save
use Rattle.saved.specs.declared.FileError.{FileError}
use Rattle.saved.specs.declared.FileError.TheVariants as file

-- ---- writing

abbrev pub saved_told : Result ℕ SaveError → Answer
saved_told (Ok size) = gives size
saved_told (Err save.StateBroken) = refuses state_broken
saved_told (Err save.OutputShort) = refuses output_short

abbrev pub saved_from : Answer → Result ℕ SaveError
saved_from a = cond (eqb a.number done) (Ok a.value) (Err (cond (eqb a.number state_broken) save.StateBroken save.OutputShort))

pub saved_back : (s : Result ℕ SaveError) → saved_from (saved_told s) ≡ s
saved_back (Ok size) = refl
saved_back (Err save.StateBroken) = refl
saved_back (Err save.OutputShort) = refl

-- ---- reading

abbrev pub error_number : FileError → ℕ
error_number file.FileShort = file_short
error_number file.MarkWrong = mark_wrong
error_number file.VersionWrong = version_wrong
error_number file.CountOver = count_over
error_number file.LengthWrong = length_wrong
error_number file.StateBroken = state_broken

abbrev pub reading_number : Result Held FileError → ℕ
reading_number (Ok h) = done
reading_number (Err e) = error_number e

abbrev pub reading_from : ℕ → FileError
reading_from num =
    cond (eqb num file_short) file.FileShort
    (cond (eqb num mark_wrong) file.MarkWrong
    (cond (eqb num version_wrong) file.VersionWrong
    (cond (eqb num count_over) file.CountOver
    (cond (eqb num length_wrong) file.LengthWrong file.StateBroken))))

pub reading_back : (e : FileError) → reading_from (error_number e) ≡ e
reading_back file.FileShort = refl
reading_back file.MarkWrong = refl
reading_back file.VersionWrong = refl
reading_back file.CountOver = refl
reading_back file.LengthWrong = refl
reading_back file.StateBroken = refl

-- an error is never told as done
pub error_told : (e : FileError) → 1 ≤ error_number e
error_told file.FileShort = lit≤ tt
error_told file.MarkWrong = lit≤ tt
error_told file.VersionWrong = lit≤ tt
error_told file.CountOver = lit≤ tt
error_told file.LengthWrong = lit≤ tt
error_told file.StateBroken = lit≤ tt

-- the state that is read; all zeros beside a refusal
abbrev pub file_told : Result Held FileError → HeldFound
file_told (Ok h) = held_found done (holds h)
file_told (Err e) = held_found (error_number e) (held_zeros v1)

abbrev pub file_from : HeldFound → Result Held FileError
file_from f = cond (eqb f.number done) (Ok (held_from f.held)) (Err (reading_from f.number))

pub told_back : (r : Result Held FileError) → file_from (file_told r) ≡ r
told_back (Ok h) = ap (λ (k : Held). Ok k) (held_back h)
told_back (Err file.FileShort) = refl
told_back (Err file.MarkWrong) = refl
told_back (Err file.VersionWrong) = refl
told_back (Err file.CountOver) = refl
told_back (Err file.LengthWrong) = refl
told_back (Err file.StateBroken) = refl
