-- `block::sixteen_rounds` meets its contract: sixteen times one turn more.
use Rattle.std.proofs.Common.{◌*◌, sym, add-zero, arith}
use Rattle.fips.specs.Sha256.{K}
use Rattle.lists.specs.Laws.{get_d_part}
use Rattle.block.specs.Places.{row, no_turn, turn_then}
use Rattle.block.proofs.sixteen_rounds.Goals as goal

pub returns : goal.returns
unfolding K
returns g c =
    let w = c.args.w.now in
    let v = c.args.v in
    let G = g.row.G in
    let k = row G in
    let t0 = no_turn k w v c.told-w in
    let t1 = turn_then k w v 0 _ (rw add-zero at (sym (get_d_part 16 (16 * G) 0 K (omega arith)))) t0 c.turn-v.ensures in
    let t2 = turn_then k w v 1 _ (sym (get_d_part 16 (16 * G) 1 K (omega arith))) t1 c.turn-v-2.ensures in
    let t3 = turn_then k w v 2 _ (sym (get_d_part 16 (16 * G) 2 K (omega arith))) t2 c.turn-v-3.ensures in
    let t4 = turn_then k w v 3 _ (sym (get_d_part 16 (16 * G) 3 K (omega arith))) t3 c.turn-v-4.ensures in
    let t5 = turn_then k w v 4 _ (sym (get_d_part 16 (16 * G) 4 K (omega arith))) t4 c.turn-v-5.ensures in
    let t6 = turn_then k w v 5 _ (sym (get_d_part 16 (16 * G) 5 K (omega arith))) t5 c.turn-v-6.ensures in
    let t7 = turn_then k w v 6 _ (sym (get_d_part 16 (16 * G) 6 K (omega arith))) t6 c.turn-v-7.ensures in
    let t8 = turn_then k w v 7 _ (sym (get_d_part 16 (16 * G) 7 K (omega arith))) t7 c.turn-v-8.ensures in
    let t9 = turn_then k w v 8 _ (sym (get_d_part 16 (16 * G) 8 K (omega arith))) t8 c.turn-v-9.ensures in
    let t10 = turn_then k w v 9 _ (sym (get_d_part 16 (16 * G) 9 K (omega arith))) t9 c.turn-v-10.ensures in
    let t11 = turn_then k w v 10 _ (sym (get_d_part 16 (16 * G) 10 K (omega arith))) t10 c.turn-v-11.ensures in
    let t12 = turn_then k w v 11 _ (sym (get_d_part 16 (16 * G) 11 K (omega arith))) t11 c.turn-v-12.ensures in
    let t13 = turn_then k w v 12 _ (sym (get_d_part 16 (16 * G) 12 K (omega arith))) t12 c.turn-v-13.ensures in
    let t14 = turn_then k w v 13 _ (sym (get_d_part 16 (16 * G) 13 K (omega arith))) t13 c.turn-v-14.ensures in
    let t15 = turn_then k w v 14 _ (sym (get_d_part 16 (16 * G) 14 K (omega arith))) t14 c.turn-v-15.ensures in
    turn_then k w v 15 _ (sym (get_d_part 16 (16 * G) 15 K (omega arith))) t15 c.turn.ensures
