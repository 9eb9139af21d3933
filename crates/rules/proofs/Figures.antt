-- 01, "Figures from the bench": the starred ones, shown from the written rules by one table and one claim.
use Rattle.std.specs.Prelude.{◌≡◌, refl, Bool, true, ◌&&◌, List, [], ◌∷◌, ℕ, suc, replicate, get_or}
use Rattle.std.specs.Int.Count.{count_trailing_zeros}
use Rattle.lists.specs.Bytes.{Bytes, same}
use Rattle.rules.specs.Numbers.{Version, v1}
use Rattle.rules.specs.Paths.{tz, greatest, level, hops_in, hops, path, path_after}
use Rattle.rules.specs.Messages.{total}
use Rattle.rules.specs.Held.{held_of, basis}
use Rattle.rules.specs.Checking.{carried, rows_after}

-- digests that tell their element: each byte of T j is j + 1, and a free row has 0
told : ℕ → Bytes
told j = replicate 32 (suc j)

-- a version with five levels, so that a row of the table stays short
five : Version
five = record { number = 1; levels = 5; before = 0 }

-- the first byte of each row
rows_tell : List Bytes → List ℕ
rows_tell [] = []
rows_tell (r ∷ rs) = get_or r 0 0 ∷ rows_tell rs

-- what the rules give, and what the paper says
pub figures : List (List ℕ × List ℕ)
figures =
    (tz 1 ∷ tz 8 ∷ tz 12 ∷ [], 0 ∷ 3 ∷ 2 ∷ [])
    ∷ (path 5 12, 5 ∷ 6 ∷ 8 ∷ 12 ∷ [])
    ∷ (total v1 (path 5 12) ∷ [], 448 ∷ [])
    ∷ (path 1 7, 1 ∷ 2 ∷ 4 ∷ 6 ∷ 7 ∷ [])
    ∷ (total v1 (path 1 7) ∷ [], 448 ∷ [])
    ∷ (total v1 (path 7 8) ∷ total v1 (path 8 8) ∷ total v1 (path 1 1) ∷ [], 224 ∷ 160 ∷ 64 ∷ [])
    ∷ (path_after 0 13, 8 ∷ 12 ∷ 13 ∷ [])
    ∷ (total v1 (path_after 0 13) ∷ total v1 (path_after 5 5) ∷ [], 352 ∷ 0 ∷ [])
    ∷ (path_after 6 8, 8 ∷ [])
    ∷ (hops 6 8, 1 ∷ [])
    ∷ (total v1 (path_after 6 8) ∷ [], 160 ∷ [])
    ∷ (rows_tell (held_of five 0 told 6).rows, 0 ∷ suc 4 ∷ suc 0 ∷ 0 ∷ 0 ∷ [])
    ∷ (rows_tell (rows_after 1 (held_of five 0 told 6)), 0 ∷ 0 ∷ 0 ∷ suc 0 ∷ 0 ∷ [])
    ∷ []

pub agree : List (List ℕ × List ℕ) → Bool
agree [] = true
agree (r ∷ rs) = same r.0 r.1 && agree rs

-- THE STARRED FIGURES HOLD
pub figures_hold : agree figures ≡ true
unfolding agree figures path hops hops_in level greatest count_trailing_zeros told rows_tell five basis carried
figures_hold = refl
