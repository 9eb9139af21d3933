-- The outcome of comparing two stores, test by test. A test that an outcome does not come to may be anything.
use Rattle.std.specs.Prelude.{◌≡◌, Bool, cond, ◌||◌, leb, ltb, eqb}
use Rattle.lists.specs.Bytes.{Bytes}
use Rattle.rules.specs.Numbers.{Version}
use Rattle.rules.specs.Refusals.{store_damaged}
use Rattle.rules.specs.Store.{damaged, log_of, count_of}
use Rattle.copies.specs.Refusals.{other_log}
use Rattle.copies.specs.Comparing.{common, element_at, byte_at, equal, first_shorter, second_shorter, differ, finding}
use Rattle.copies.specs.Calls.{found, refused, compare_call}

module _ (v : Version) (s t : Bytes) where
  pub compare_is : {first second one : Bool} → damaged v s ≡ first → damaged v t ≡ second → eqb (log_of s) (log_of t) ≡ one
      → compare_call v s t ≡ cond (first || second) (refused store_damaged) (cond one (found (finding v s t)) (refused other_log))
  unfolding compare_call
  compare_is e1 e2 e3 = rw (e1, e2, e3)

  pub finding_is : {within less more : Bool} → leb (element_at v s t) (common v s t) ≡ within → ltb (count_of v s) (count_of v t) ≡ less → ltb (count_of v t) (count_of v s) ≡ more
      → finding v s t ≡ cond within (differ (element_at v s t) (byte_at v s t (element_at v s t))) (cond less first_shorter (cond more second_shorter equal))
  unfolding finding
  finding_is e1 e2 e3 = rw (e1, e2, e3)
