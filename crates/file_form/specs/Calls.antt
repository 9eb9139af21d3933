-- The whole outcome of writing a file and of reading one: the number, the number beside it, and what lent memory holds after it or the state that is
-- read. For any hash H and any version of the log.
use Rattle.std.specs.Prelude.{cond, leb, ltb, eqb, length, ℕ}
use Rattle.lists.specs.Bytes.{Bytes, be, same}
use Rattle.rules.specs.Numbers.{Version, limit}
use Rattle.rules.specs.Refusals.{done, state_broken, output_short}
use Rattle.rules.specs.Held.{Held, held_zeros, is_in_order}
use Rattle.rules.specs.Calls.{Written, written, gives, refuses, HeldFound, held_found, over}
use Rattle.file_form.specs.Refusals.{file_short, mark_wrong, version_wrong, count_over, length_wrong}
use Rattle.file_form.specs.Form.{hld, head_size, file_of, file_size, mark_in, version_in, count_in, state_in}

module _ (H : Bytes → Bytes) (v : Version) where
  -- A state that is not in order is refused with 2, then a lent output that is too short with 6. The file goes to the start of the output; the rest stays.
  unfoldable pub write_call : Held → Bytes → Written
  write_call h out =
      cond (is_in_order H v h)
      (cond (ltb (length out) (file_size h.count)) (written (refuses output_short) out)
      (written (gives (file_size h.count)) (over (file_of v h) out)))
      (written (refuses state_broken) out)

  -- "a held state refused by a store or a file is all zeros"
  abbrev pub unread : ℕ → HeldFound
  unread num = held_found num (held_zeros v)

  -- "Reading refuses, in this order and each with its own number: under 53 bytes, wrong mark, wrong version, count over the limit, wrong length. A wrong T(0)
  -- at count 0 gives 2, last." Of what 2 is given for, nothing else is left then: `Back`: `read_order`.
  unfoldable pub read_call : Bytes → HeldFound
  read_call f =
      cond (ltb (length f) head_size) (unread file_short)
      (cond (same (mark_in f) hld)
      (cond (same (version_in f) (be 2 v.number))
      (cond (leb (count_in f) (limit v))
      (cond (eqb (length f) (file_size (count_in f)))
      (cond (is_in_order H v (state_in v f)) (held_found done (state_in v f))
      (unread state_broken))
      (unread length_wrong))
      (unread count_over))
      (unread version_wrong))
      (unread mark_wrong))
