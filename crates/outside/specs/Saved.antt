-- The file form of request A4, computed under the stand-in hash on the states of the log of three lots, gives the files that were made outside; and reading
-- those, whole or spoiled, gives the state or the number that the request names.
use Rattle.std.specs.Prelude.{◌≡◌, refl, true, List, [], ◌∷◌, ◌++◌, ℕ, take, replicate, set}
use Rattle.std.specs.Int.Count.{ones, ones_in}
use Rattle.lists.specs.Bytes.{Bytes, number_from}
use Rattle.standin.specs.Hash.{hash_of, xored, xor_row}
use Rattle.rules.specs.Numbers.{v1}
use Rattle.rules.specs.Messages.{start_msg}
use Rattle.rules.specs.Held.{Held, held_start, free_zero, is_in_order}
use Rattle.file_form.specs.Form.{head, in_use, file_of, rows_in, state_in}
use Rattle.file_form.specs.Calls.{write_call, read_call}
use Rattle.outside.specs.Made as made
use Rattle.outside.specs.Agree.{flat, agree}

-- the state held at n, from its digest and its first two rows
abbrev state : ℕ → Bytes → Bytes → Bytes → Held
state n d r0 r1 = record { log = 7; count = n; digest = d; rows = r0 ∷ r1 ∷ replicate 30 (replicate 32 0) }

-- those at 2 and at 3
abbrev two : Held
two = state 2 made.second (replicate 32 0) made.start

abbrev pub three : Held
three = state 3 made.third made.second made.start

-- a state as bytes, and what reading gives
abbrev told : Held → Bytes
told h = h.log ∷ h.count ∷ (h.digest ++ flat h.rows)

abbrev reads : Bytes → Bytes
reads f = let r = read_call hash_of v1 f in r.number ∷ told r.held

abbrev says : Bytes → ℕ
says f = (read_call hash_of v1 f).number

pub computed : List (Bytes × Bytes)
computed =
    (file_of v1 (held_start hash_of v1 7), made.saved_none)
    ∷ (file_of v1 two, made.saved_two)
    ∷ (file_of v1 three, made.saved_three)
    ∷ ((write_call hash_of v1 three (replicate 120 170)).bytes, made.saved_three ++ replicate 3 170)
    ∷ ((write_call hash_of v1 three (replicate 117 170)).answer.value ∷ (write_call hash_of v1 three (replicate 116 170)).answer.number ∷ [], 117 ∷ 6 ∷ [])
    ∷ ((write_call hash_of v1 (state 2 made.second made.start made.start) []).answer.number ∷ [], 2 ∷ [])
    ∷ (reads made.saved_none, 0 ∷ told (held_start hash_of v1 7))
    ∷ (reads made.saved_two, 0 ∷ told two)
    ∷ (reads made.saved_three, 0 ∷ told three)
    ∷ (reads [], 18 ∷ replicate 1058 0)
    ∷ (says (take 52 made.saved_none) ∷ says (set made.saved_two 2 76) ∷ says (set made.saved_two 4 2) ∷ says (set made.saved_two 16 1) ∷ [], 18 ∷ 19 ∷ 20 ∷ 21 ∷ [])
    ∷ (says (set made.saved_two 20 3) ∷ says (made.saved_two ++ (0 ∷ [])) ∷ says (set made.saved_none 12 8) ∷ [], 22 ∷ 22 ∷ 2 ∷ [])
    ∷ []

-- THE FILE FORM GIVES THE FIGURES THAT WERE MADE OUTSIDE
pub files_agree : agree computed ≡ true
unfolding agree computed flat made.start made.second made.third made.saved_none made.saved_two made.saved_three hash_of xored xor_row number_from ones ones_in start_msg
    free_zero is_in_order head in_use file_of rows_in state_in write_call read_call
files_agree = refl
