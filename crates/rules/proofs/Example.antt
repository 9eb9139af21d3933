-- 01, "Whole example: a fresh 81-byte store for log 7 is `4C 4F 54 00 01 00 00 00 00 00 00 00 00 00 00 07`, then 64 bytes as they were,"
-- and 02, A2: "The whole example in 01 then ends in `FF`".
use Rattle.std.specs.Prelude.{◌≡◌, [], ◌∷◌, ◌++◌, ℕ, ◌-◌, ◌/◌, min, length, take, drop, set}
use Rattle.std.proofs.Common.{ap, ◌∙◌, arith, length-drop, drop_of_length-le}
use Rattle.std.proofs.lemmas.List.{set_split}
use Rattle.lists.specs.Bytes.{Bytes}
use Rattle.rules.specs.Numbers.{v1, limit}
use Rattle.rules.specs.Store.{header_size, header, open_byte, width, opened}
use Rattle.rules.specs.Calls.{gives, written, start_call}
use Rattle.rules.proofs.Answers.{start_done}

abbrev pub printed : Bytes
printed = 0x4C ∷ 0x4F ∷ 0x54 ∷ 0x00 ∷ 0x01 ∷ 0x00 ∷ 0x00 ∷ 0x00 ∷ 0x00 ∷ 0x00 ∷ 0x00 ∷ 0x00 ∷ 0x00 ∷ 0x00 ∷ 0x00 ∷ 0x07 ∷ []

-- It holds of any 81 bytes.
pub example : (s : Bytes) → length s ≡ 81 → start_call v1 s 7 ≡ written (gives 0) (printed ++ take 64 (drop 16 s) ++ (0xFF ∷ []))
unfolding header opened
example s e =
    let rest : length (drop 16 s) ≡ 65 = length-drop 16 s ∙ omega arith in
    let set_last : set (drop 16 s) 64 open_byte ≡ take 64 (drop 16 s) ++ (open_byte ∷ []) =
    set_split (drop 16 s) 64 open_byte (omega arith) ∙ ap (λ (x : Bytes). take 64 (drop 16 s) ++ open_byte ∷ x) (drop_of_length-le (drop 16 s) {i = 65} (omega arith)) in
    start_done v1 s 7 (omega arith)
    ∙ ap (λ (n : ℕ). written (gives 0) (opened v1 (printed ++ drop 16 s) 0 (min ((n - header_size) / width v1) (limit v1)))) e
    ∙ ap (λ (x : Bytes). written (gives 0) (printed ++ x)) set_last
