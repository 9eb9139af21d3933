-- The rules, computed under the stand-in hash on a log of three lots, give the figures that were made outside.
use Rattle.std.specs.Prelude.{◌≡◌, refl, Bool, true, ◌&&◌, List, [], ◌∷◌, ◌++◌, ℕ, take, replicate, set}
use Rattle.std.specs.Int.Count.{count_trailing_zeros}
use Rattle.lists.specs.Bytes.{Bytes, same, number_from}
use Rattle.standin.specs.Hash.{hash_of, xored, xor_row}
use Rattle.rules.specs.Numbers.{v1}
use Rattle.rules.specs.Paths.{level, greatest, hops, hops_in, path}
use Rattle.rules.specs.Messages.{start_msg, entry_msg, element_msg, links, body_in, digest_in, membership_proof, advancement_proof}
use Rattle.rules.specs.Store.{header, log_of, first_unclosed, all_open, damaged, t_of, opened, new_record, lowest_wrong}
use Rattle.rules.specs.Held.{basis, held_of, held_start, free_zero, is_in_order}
use Rattle.rules.specs.Checking.{member, walk, advance, advance_walk, agrees, carried}
use Rattle.rules.specs.Calls.{start_call, count_call, append_call, audit_call, held_call, member_call, advance_call, build_call, build_membership_call, build_advancement_call}
use Rattle.outside.specs.Made as made

-- the three entries: no bytes, "A", and 33 bytes from 97 up
abbrev second : Bytes
second = 65 ∷ []

abbrev third : Bytes
third =
    97 ∷ 98 ∷ 99 ∷ 100 ∷ 101 ∷ 102 ∷ 103 ∷ 104 ∷ 105 ∷ 106 ∷ 107 ∷ 108 ∷ 109 ∷ 110 ∷ 111 ∷ 112 ∷ 113 ∷ 114 ∷ 115 ∷ 116 ∷ 117 ∷ 118 ∷
    119 ∷ 120 ∷ 121 ∷ 122 ∷ 123 ∷ 124 ∷ 125 ∷ 126 ∷ 127 ∷ 128 ∷ 129 ∷ []

-- ---- the digests of the log, from the bodies of its elements

abbrev bodies : List Bytes
bodies = hash_of (entry_msg third) ∷ hash_of (entry_msg second) ∷ hash_of (entry_msg []) ∷ []

abbrev T : ℕ → Bytes
T = digest_in hash_of (hash_of (start_msg v1 7)) bodies

-- ---- the same log, kept in a store of 276 bytes that held 170s: three records are closed, the last one is open

abbrev append : Bytes → Bytes → Bytes
append s e = (append_call hash_of v1 [] s e 65).bytes

abbrev store : Bytes
store = append (append (append (start_call v1 (replicate 276 170) 7).bytes []) second) third

-- a fourth append, stopped after 40 stores
abbrev cut : Bytes
cut = (append_call hash_of v1 [] made.kept (66 ∷ []) 40).bytes

unfoldable pub flat : List Bytes → Bytes
flat [] = []
flat (r ∷ rs) = r ++ flat rs

-- what the rules give, and what was made outside
pub computed : List (Bytes × Bytes)
computed =
    (T 0, made.start)
    ∷ (T 1, made.first)
    ∷ (T 2, made.second)
    ∷ (T 3, made.third)
    ∷ (membership_proof (body_in bodies) T 1 3, made.member)
    ∷ (advancement_proof (body_in bodies) T 0 3, made.advanced)
    ∷ (flat (held_of v1 7 T 3).rows, made.rows)
    ∷ (store, made.kept)
    ∷ (cut, take 211 made.kept ++ made.torn)
    ∷ ((count_call v1 cut).number ∷ (count_call v1 cut).value ∷ (count_call v1 (set made.kept 275 0)).number ∷ [], 0 ∷ 3 ∷ 1 ∷ [])
    ∷ ((build_membership_call hash_of v1 made.kept 1 3 (replicate 224 0)).bytes, made.member)
    ∷ ((build_advancement_call hash_of v1 made.kept 0 3 (replicate 160 0)).bytes, made.advanced)
    ∷ (flat (held_call hash_of v1 made.kept 3).held.rows, made.rows)
    ∷ (flat (advance_call hash_of v1 (held_start hash_of v1 7) 3 made.third made.advanced).held.rows, made.rows)
    ∷ ((count_call v1 made.kept).value ∷ (audit_call hash_of v1 made.kept).value ∷ [], 3 ∷ 3 ∷ [])
    ∷ ((member_call hash_of v1 [] 1 3 made.third made.member).number ∷ (member_call hash_of v1 [] 1 3 made.third made.member).value ∷ [], 0 ∷ 2 ∷ [])
    ∷ ((member_call hash_of v1 second 1 3 made.third made.member).number ∷ [], 8 ∷ [])
    ∷ []

unfoldable pub agree : List (Bytes × Bytes) → Bool
agree [] = true
agree (r ∷ rs) = same r.0 r.1 && agree rs

-- THE RULES GIVE THE FIGURES THAT WERE MADE OUTSIDE
pub rules_agree : agree computed ≡ true
unfolding agree computed flat made.start made.first made.second made.third made.member made.advanced made.rows made.kept made.torn
    hash_of xored xor_row number_from count_trailing_zeros level greatest hops hops_in path start_msg element_msg links body_in digest_in
    header log_of first_unclosed all_open damaged t_of opened new_record lowest_wrong basis free_zero is_in_order member walk advance advance_walk
    agrees carried start_call count_call append_call audit_call held_call build_call
rules_agree = refl
