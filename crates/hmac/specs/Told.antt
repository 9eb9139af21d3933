-- The number for each answer, with the code, and back: telling loses nothing.
use Rattle.std.specs.Prelude.{◌≡◌, refl, cond, ℕ, eqb, Result, Ok, Err}
use Rattle.lists.specs.Bytes.{zeros}
use Rattle.hash.specs.declared.Digest.{Digest}
use Rattle.rules.specs.Refusals.{done, too_long}
use Rattle.rules.specs.Calls.{Found, found}
use Rattle.hmac.specs.declared.TooLong.{TooLong}

abbrev pub coding_number : Result Digest TooLong → ℕ
coding_number (Ok d) = done
coding_number (Err e) = too_long

abbrev pub coded_told : Result Digest TooLong → Found
coded_told (Ok d) = found done d.bytes
coded_told (Err e) = found too_long zeros

abbrev pub coded_from : Found → Result Digest TooLong
coded_from f = cond (eqb f.number done) (Ok (record { bytes = f.digest })) (Err (record {}))

pub coded_back : (r : Result Digest TooLong) → coded_from (coded_told r) ≡ r
coded_back (Ok d) = refl
coded_back (Err e) = refl
