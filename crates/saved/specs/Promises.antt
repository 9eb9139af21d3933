-- What the contracts of this crate come to, for the hash of this build. One outcome: two answers, and two outputs after a call, that meet a contract are the
-- same. What is written reads back as the state itself; what was read is in order, and gives its file back when written. A state is `Sized`, as its types
-- say: its numbers have 64 bits, its digest and its rows 32 bytes.
use Rattle.std.specs.Prelude.{◌≡◌, refl, true, false, ◌++◌, ℕ, ◌≤◌, length, take, drop, Result, Ok, Err, IsOk, is_ok}
use Rattle.std.proofs.Common.{sym, ap, ◌∙◌, arith, take_at}
use Rattle.lists.specs.Bytes.{Bytes, AreBytes}
use Rattle.hash.specs.Hash.{hash_of}
use Rattle.rules.specs.Numbers.{v1}
use Rattle.rules.specs.Refusals.{done}
use Rattle.rules.specs.Held.{Sized, is_in_order, widened}
use Rattle.rules.specs.Held as rules
use Rattle.rules.specs.Calls.{HeldFound, held_found, written, gives, over, advance_call}
use Rattle.rules.specs.Calls as calls
use Rattle.rules.proofs.OneOutcome.{One, one_outcome}
use Rattle.rules.proofs.Wider.{twenty}
use Rattle.held.specs.declared.Held.{Held}
use Rattle.held.specs.Holding.{holds, held_one}
use Rattle.file_form.specs.Form.{file_of, file_size}
use Rattle.file_form.specs.Calls.{write_call, read_call}
use Rattle.file_form.proofs.Back.{file_size_lem, order_few}
use Rattle.file_form.proofs.Wider.{older_reads}
use Rattle.file_form.proofs.OneFile.{Writes, writes, writes_file, broken_refused, file_reads, read_in_order, read_writes}
use Rattle.saved.specs.Told.{saved_told, saved_from, saved_back, error_number, error_told, file_told, file_from, told_back}
use Rattle.saved.specs.declared.SaveError.{SaveError}
use Rattle.saved.specs.declared.SaveError.TheVariants.{StateBroken}
use Rattle.saved.specs.declared.FileError.{FileError}

-- ---- one outcome for each call

-- an answer, and the output after the call
abbrev pub outcome : Result ℕ SaveError × Bytes → calls.Written
outcome x = written (saved_told x.0) x.1

pub write_one : (h : Held) (out : Bytes) → One outcome (write_call hash_of v1 (holds h) out)
write_one h out =
    one_outcome outcome (λ (w : calls.Written). (saved_from w.answer, w.bytes)) (λ x. ap (λ (s : Result ℕ SaveError). (s, x.1)) (saved_back x.0)) (write_call hash_of v1 (holds h) out)

pub read_one : (f : Bytes) → One file_told (read_call hash_of v1 f)
read_one f = one_outcome file_told file_from told_back (read_call hash_of v1 f)

-- ---- exactly the states in order can be written; o is the output after the call

module _ (h : Held) (out o : Bytes) (s : Result ℕ SaveError) (met : outcome (s, o) ≡ write_call hash_of v1 (holds h) out) where
  told : s ≡ saved_from (write_call hash_of v1 (holds h) out).answer
  told = sym (saved_back s) ∙ ap (λ (w : calls.Written). saved_from w.answer) met

  -- A STATE IN ORDER IS WRITTEN where the output has room,
  pub order_written : is_in_order hash_of v1 (holds h) ≡ true → file_size h.count.0 ≤ length out → s ≡ Ok (file_size h.count.0)
  order_written e room = told ∙ ap (λ (w : calls.Written). saved_from w.answer) (writes_file hash_of v1 (holds h) out (record { ordered = e; room = room }))

  -- AND NO OTHER IS.
  pub broken_unwritten : is_in_order hash_of v1 (holds h) ≡ false → s ≡ Err StateBroken
  broken_unwritten e = told ∙ ap (λ (w : calls.Written). saved_from w.answer) (broken_refused hash_of v1 (holds h) out e)

-- ---- an answer that is told as done

module _ (r : Result Held FileError) (g : rules.Held) (told_done : file_told r ≡ held_found done g) where
  -- It is a state, and holds that.
  done_ok : (k : Held) × (r ≡ Ok k) × (holds k ≡ g)
  done_ok = go r told_done
    where
      go : (x : Result Held FileError) → file_told x ≡ held_found done g → (k : Held) × (x ≡ Ok k) × (holds k ≡ g)
      go (Ok k) e = (k, refl, ap (λ (f : HeldFound). f.held) e)
      go (Err x) e = let z : error_number x ≡ 0 = ap (λ (f : HeldFound). f.number) e in absurd (omega (arith, error_told x))

-- ---- what is written reads back; o is the output after the call, and r what is read from the bytes that were written

module _ (h : Held) (s : Sized v1 (holds h)) (out o : Bytes) (size : ℕ) (met : outcome (Ok size, o) ≡ write_call hash_of v1 (holds h) out)
    (r : Result Held FileError) (read : file_told r ≡ read_call hash_of v1 (take size o)) where
  wrote : Writes hash_of v1 (holds h) out
  wrote = writes hash_of v1 (holds h) out (sym (ap (λ (w : calls.Written). w.answer.number) met))

  filed : outcome (Ok size, o) ≡ written (gives (file_size h.count.0)) (over (file_of v1 (holds h)) out)
  filed = met ∙ writes_file hash_of v1 (holds h) out wrote

  -- the bytes written are the file
  pub wrote_file : take size o ≡ file_of v1 (holds h)
  wrote_file =
      ap (λ (w : calls.Written). take w.answer.value w.bytes) filed
      ∙ take_at (file_of v1 (holds h)) (drop (length (file_of v1 (holds h))) out) (file_size h.count.0) (file_size_lem v1 (holds h) s (order_few hash_of v1 (holds h) wrote.ordered))

  backed : file_told r ≡ held_found done (holds h)
  backed = read ∙ ap (read_call hash_of v1) wrote_file ∙ file_reads hash_of v1 (holds h) s wrote.ordered

  -- WHAT IS WRITTEN IS READ,
  pub saved_reads : IsOk r
  saved_reads = let d = done_ok r (holds h) backed in ap (λ (x : Result Held FileError). is_ok x) d.1

  -- AS THE STATE ITSELF;
  pub saved_same : r ≡ Ok h
  saved_same = let d = done_ok r (holds h) backed in d.1 ∙ ap (λ (k : Held). Ok k) (held_one (holds h) d.0 h d.2 refl)

  -- so it advances as the state itself does.
  pub saved_advances : (k : Held) → r ≡ Ok k → (n : ℕ) (D p : Bytes) → advance_call hash_of v1 (holds k) n D p ≡ advance_call hash_of v1 (holds h) n D p
  saved_advances k e n D p = ap (λ (g : Held). advance_call hash_of v1 (holds g) n D p) (let same : ◌≡◌ {A = Result Held FileError} (Ok k) (Ok h) = sym e ∙ saved_same in cc)

-- ---- what was read, from the file f; lent memory holds bytes

module _ (f : Bytes) (bytes : AreBytes f) (r : Result Held FileError) (read : file_told r ≡ read_call hash_of v1 f) (k : Held) (done_reading : r ≡ Ok k) where
  given : read_call hash_of v1 f ≡ held_found done (holds k)
  given = sym read ∙ ap (λ (x : Result Held FileError). file_told x) done_reading

  -- WHAT IS READ IS IN ORDER,
  pub read_ordered : is_in_order hash_of v1 (holds k) ≡ true
  read_ordered = read_in_order hash_of v1 f bytes (holds k) given

  module _ (out o : Bytes) (room : length f ≤ length out) (s : Result ℕ SaveError) (met : outcome (s, o) ≡ write_call hash_of v1 (holds k) out) where
    again : outcome (s, o) ≡ written (gives (length f)) (over f out)
    again = met ∙ read_writes hash_of v1 f bytes (holds k) given out room

    -- AND WRITING IT GIVES THE FILE BACK, its length
    pub read_written : s ≡ Ok (length f)
    read_written = sym (saved_back s) ∙ ap (λ (w : calls.Written). saved_from w.answer) again

    -- and every byte; what stands behind it stays.
    pub read_same : o ≡ f ++ drop (length f) out
    read_same = ap (λ (w : calls.Written). w.bytes) again

-- ---- "A file from A4 still reads, since it holds used rows only" (02, A7): what the build before it read, with twenty rows, as the state h

module _ (f : Bytes) (h : rules.Held) (old : read_call hash_of twenty f ≡ held_found done h) (r : Result Held FileError) (read : file_told r ≡ read_call hash_of v1 f) where
  older : file_told r ≡ held_found done (widened 12 h)
  older = read ∙ older_reads hash_of 12 twenty f h old

  -- A FILE THAT READ READS,
  pub older_done : IsOk r
  older_done = let d = done_ok r (widened 12 h) older in ap (λ (x : Result Held FileError). is_ok x) d.1

  -- AS THE STATE THAT IT GAVE, with twelve further rows, which are free; and so it gives itself back when written, by `read_written` and `read_same`.
  pub older_same : (k : Held) → r ≡ Ok k → holds k ≡ widened 12 h
  older_same k e = ap (λ (x : HeldFound). x.held) (sym (ap (λ (x : Result Held FileError). file_told x) e) ∙ older)
