-- 01's number, the one that goes with it and 02's place (A5), as the code has them.
use Rattle.std.specs.Prelude.{◌≡◌, ℕ}
use Rattle.std.proofs.Common.{ap₂, ◌∙◌}
use Rattle.rules.specs.Checking.{place}
use Rattle.rules.specs.Calls.{Answer}
use Rattle.numbers.specs.declared.Said.{Said}

abbrev pub answer_of : Said → Answer
answer_of s = record { number = s.number; value = s.value; place = place s.element s.level }

-- s says what the rules answer, number by number
pub record Says (s : Said) (a : Answer) : Type 0 where
  pub number : s.number ≡ a.number
  pub value : s.value ≡ a.value
  pub element : s.element ≡ a.place.element
  pub level : s.level ≡ a.place.level

pub says : {s : Said} {a : Answer} → Says s a → answer_of s ≡ a
says {s} {a} e =
    ap₂ (λ (n x : ℕ). record { number = n; value = x; place = place s.element s.level }) e.number e.value
    ∙ ap₂ (λ (j l : ℕ). record { number = a.number; value = a.value; place = place j l }) e.element e.level
