-- The book's definitions under one name, for what is proved by computing: to unfold `book` is to unfold all of them. Assumes nothing.
use Prim.Native.Nat.{ℕ}
use lib.Ieee.{round, to_bits}
use Rattle.model.specs.Pick.{all, some, first_of, first}
use Rattle.model.specs.Registers.{raise, poured, least, count_of, above}
use Rattle.model.specs.Packed.{number, digits, slot_at, unpacked, packed}
use Rattle.model.specs.Table.{base_for, size_for, table_size, walk, steps_from, place_from, place, word_at, used, replace, refill, grown, insert, inserts, sifted, laid}
use Rattle.model.specs.Steps.{ran}
use Rattle.model.specs.Four.{stored_at, values_from, registers4, risen, climbed, settled, inserted, put4, step4}
use Rattle.model.specs.Sketch.{is_kind, bytes_of, low_of, record_of, stored, area_of, cells, table_in, registers}
use Rattle.model.specs.Check.{counts_fit, values_fit, spare_fits, tally_fits, word_fits, table_fits, good_of, lgk_no, size_no, shape_no, scratch_fits, check_no}
use Rattle.model.specs.Sums.{share, scaled, ratio}
use Rattle.model.specs.Calls.{kept_out, start_of, state_of, step_of, batch_of, feed_of, eight_no, merge_no, merge_of, sums_of}
use Rattle.model.specs.Faults.{lists, fault_at, aux_fault}
use Rattle.model.specs.Image.{header, image_of, image_in, write_no, write_of, kind_of, sketch_in, regs_in, compact_in, word_count, entries_in, aux_in, place_in, header_no, form_no, memory_no, lg_arr_fits, counts_no, room_no, body_no, open_no, open_of}
use Rattle.model.specs.Lists.{coupon_count, empty_in, preamble_no, coupons_no, feed_image_no, empty_place, feed_image_of}

-- its value says nothing
unfoldable pub book : ℕ
unfolding all some first_of first raise poured least count_of above number digits slot_at unpacked packed
    base_for size_for table_size walk steps_from place_from place word_at used replace refill grown insert inserts sifted laid
    ran stored_at values_from registers4 risen climbed settled inserted put4 step4
    is_kind bytes_of low_of record_of stored area_of cells table_in registers
    counts_fit values_fit spare_fits tally_fits word_fits table_fits good_of lgk_no size_no shape_no scratch_fits check_no
    share scaled ratio round to_bits
    kept_out start_of state_of step_of batch_of feed_of eight_no merge_no merge_of sums_of
    lists fault_at aux_fault
    header image_of image_in write_no write_of kind_of sketch_in regs_in compact_in word_count entries_in aux_in place_in header_no form_no memory_no lg_arr_fits counts_no room_no body_no open_no open_of
    coupon_count empty_in preamble_no coupons_no feed_image_no empty_place feed_image_of
book = 0
