-- Request A1's definitions, computed on a dictionary of three keys, give the figures that were made outside: under the stand-in hash, and under one that
-- tells the two sides of a node apart, which the stand-in does not.
use Rattle.std.specs.Prelude.{◌≡◌, refl, true, List, [], ◌∷◌, ◌++◌, ◌-◌, ◌%◌, ◌^◌, length, replicate}
use Rattle.lists.specs.Bytes.{Bytes, be, number, number_from}
use Rattle.standin.specs.Hash.{hash_of, xored, xor_row}
use Rattle.dictionary.specs.Handles.{turn, side, rows, flat, rising_from, listed, has}
use Rattle.dictionary.specs.Trie.{crossing, subtree, way, climbed}
use Rattle.dictionary.specs.Meeting.{full_msg, meeting}
use Rattle.dictionary.specs.Calls.{Formed, Finding, clashing, zeroed, denied, handle_call, root_call, proof_of, prove_call, presence_call, absence_call, check_presence, check_absence, clash_call}
use Rattle.outside.specs.Agree.{agree}
use Rattle.outside_trie.specs.Made as made

abbrev key_a : Bytes
key_a = 65 ∷ []

abbrev key_b : Bytes
key_b = 66 ∷ []

-- the message as a number, modulo a prime of 255 bits
abbrev remainder : Bytes → Bytes
remainder m = be 32 (number m % (2 ^ 255 - 19))

-- what the routine that forms the messages answers, as numbers, and what the two buffers hold after it
abbrev answered : Finding → Bytes
answered (clashing m n) = 0 ∷ m ∷ n ∷ []
answered (zeroed n) = 1 ∷ n ∷ []
answered (denied num which) = num ∷ which ∷ []

abbrev told : Formed → Bytes
told o = answered o.finding ++ o.first ++ o.second

-- ---- what the definitions give, and what was made outside

pub computed : List (Bytes × Bytes)
computed =
    ((handle_call hash_of key_a).digest, made.handle)
    ∷ ((root_call hash_of made.handles).digest, made.root)
    ∷ (proof_of hash_of made.handles key_a, made.there)
    ∷ (proof_of hash_of made.handles key_b, made.absent)
    ∷ []

pub sided : List (Bytes × Bytes)
sided =
    ((handle_call remainder key_a).digest, made.handle2)
    ∷ ((root_call remainder made.handles2).digest, made.root2)
    ∷ ((presence_call remainder made.handles2 key_a (replicate 8192 7)).bytes, made.there2)
    ∷ ((absence_call remainder made.handles2 key_b (replicate (length made.absent2) 7)).bytes, made.absent2)
    ∷ ((presence_call remainder made.handles2 key_b []).answer.number ∷ (absence_call remainder made.handles2 key_a []).answer.number ∷ [], 15 ∷ 15 ∷ [])
    ∷ (check_presence remainder key_a made.root2 made.there2 ∷ check_absence remainder key_b made.root2 made.absent2 ∷ [], 0 ∷ 0 ∷ [])
    ∷ (check_presence remainder key_b made.root2 made.there2 ∷ check_absence remainder key_a made.root2 made.absent2 ∷ [], 17 ∷ 17 ∷ [])
    ∷ []

-- two different messages of one hash; and a message whose hash is all zeros
pub clashed : List (Bytes × Bytes)
clashed =
    (told (clash_call remainder key_a made.root2 made.there2 made.lie2 (replicate 65 0) (replicate 65 0)), 0 ∷ 65 ∷ 65 ∷ (made.one2 ++ made.other2))
    ∷ (told (clash_call remainder key_a made.zero_root2 made.zero_there2 made.zero_absent2 (replicate 65 0) (replicate 65 0)), 1 ∷ 65 ∷ (made.zero_one2 ++ replicate 65 0))
    ∷ []

-- THE DEFINITIONS GIVE THE FIGURES THAT WERE MADE OUTSIDE
pub trie_agrees : agree computed ≡ true
unfolding agree computed made.handle made.handles made.root made.there made.absent hash_of xored xor_row number_from turn side rows flat rising_from listed has
    subtree way handle_call root_call
trie_agrees = refl

pub sides_agree : agree sided ≡ true
unfolding agree sided made.handle2 made.handles2 made.root2 made.there2 made.absent2 number_from turn side rows flat rising_from listed has
    crossing subtree way climbed handle_call root_call prove_call check_presence check_absence
sides_agree = refl

pub clash_agrees : agree clashed ≡ true
unfolding agree clashed made.root2 made.there2 made.lie2 made.one2 made.other2 made.zero_root2 made.zero_there2 made.zero_absent2 made.zero_one2 number_from turn
    rows crossing climbed full_msg meeting check_presence check_absence clash_call
clash_agrees = refl
