-- `saved::put_head` meets its contract: its four writes stand one behind the other.
use Rattle.std.proofs.Common.{◌≡◌, ◌++◌, length, refl, sym, ap, rules}
use Rattle.std.proofs.lemmas.Slice.{put_mid-paste}
use Rattle.lists.specs.Bytes.{be}
use Rattle.rules.specs.Numbers.{v1}
use Rattle.held.specs.Holding.{holds}
use Rattle.file_form.specs.Form.{hld}
use Rattle.file_form.proofs.Back.{head_size_lem}
use Rattle.saved.proofs.Turns.{head_written}
use Rattle.saved.proofs.put_head.Goals as goal

pub returns : goal.returns
returns c =
    let h = c.args.h.now in
    let out = c.args.out.now in
    let mark = c.copy_from_slice in
    let log = c.copy_from_slice-2 in
    let count = c.copy_from_slice-3 in
    let digest = c.copy_from_slice-4 in
    let whole : length h.digest.bytes ≡ 32 = search rules in
    let log_told : c.to_be_bytes.result ≡ be 8 h.log = search rules in
    let count_told : c.to_be_bytes-2.result ≡ be 8 h.count.0 = search rules in (
      head_written (holds h) out _ _ _ _ c.to_be_bytes.result c.to_be_bytes-2.result log_told count_told whole
          (put_mid-paste 0 5 out mark.new.self (hld ++ be 2 v1.number) 5 mark.ensures.after refl refl)
          (put_mid-paste 5 8 _ log.new.self c.to_be_bytes.result 8 log.ensures.after refl (sym (ap length c.to_be_bytes.ensures)))
          (put_mid-paste 13 8 _ count.new.self c.to_be_bytes-2.result 8 count.ensures.after refl (sym (ap length c.to_be_bytes-2.ensures)))
          (put_mid-paste 21 32 _ digest.new.self h.digest.bytes 32 digest.ensures.after refl (sym whole)),
      head_size_lem v1 (holds h) whole,
    )
