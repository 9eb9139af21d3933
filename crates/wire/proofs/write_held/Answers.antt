-- `wire::write_held` meets its contract: its four writes, one behind the other, fill the bytes.
use Rattle.std.proofs.Common.{◌≡◌, length, refl, sym, ap, rules}
use Rattle.std.proofs.lemmas.Slice.{put_mid-paste}
use Rattle.lists.specs.Bytes.{be}
use Rattle.held.specs.Holding.{holds}
use Rattle.wire.proofs.Wiring.{written}
use Rattle.wire.proofs.write_held.Goals as goal

pub returns : goal.returns
returns c =
    let a = c.args in
    let log = c.copy_from_slice in
    let count = c.copy_from_slice-2 in
    let digest = c.copy_from_slice-3 in
    let whole : length a.h.now.digest.bytes ≡ 32 = search rules in
    let log_told : c.to_be_bytes.result ≡ be 8 a.h.now.log = search rules in
    let count_told : c.to_be_bytes-2.result ≡ be 8 a.h.now.count.0 = search rules in
    written (holds a.h.now) a.out.now _ _ _ c.put_rows.new.out c.to_be_bytes.result c.to_be_bytes-2.result (search rules) log_told count_told
    whole c.put_rows.ensures.1
    (put_mid-paste 0 8 a.out.now log.new.self c.to_be_bytes.result 8 log.ensures.after refl (sym (ap length c.to_be_bytes.ensures)))
    (put_mid-paste 8 8 _ count.new.self c.to_be_bytes-2.result 8 count.ensures.after refl (sym (ap length c.to_be_bytes-2.ensures)))
    (put_mid-paste 16 32 _ digest.new.self a.h.now.digest.bytes 32 digest.ensures.after refl (sym whole))
    c.put_rows.ensures.0
