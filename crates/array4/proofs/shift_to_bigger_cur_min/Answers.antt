-- `array4::shift_to_bigger_cur_min` meets its contract: `Rising` and `Remaking` say what each step leaves. Assumes nothing.
use native.Mathlib.Omega.{arith}
use Rattle.array4.proofs.Holding.{holds_sizable}
use Rattle.array4.proofs.Rising as rising
use Rattle.array4.proofs.Remaking as remaking
use Rattle.array4.proofs.shift_to_bigger_cur_min.Goals as goal

pub lower-num_at_cur_min-requires : goal.lower-num_at_cur_min-requires
lower-num_at_cur_min-requires c =
    rising.lowerable c.requires.held.holds c.requires.none

pub returns-then-s-eq0 : goal.returns-then-s-eq0
returns-then-s-eq0 c =
    rising.rose_plain c.requires.held.holds c.requires.none c.lower-num_at_cur_min.ensures c.if-s-eq0.true

pub table_size-size-requires : goal.table_size-size-requires
table_size-size-requires c =
    holds_sizable c.requires.held.holds _ _ c.base_for-base.ensures (omega arith)

pub slice_bounds-free-end : goal.slice_bounds-free-end
slice_bounds-free-end c =
    remaking.rise_fits c.requires.held.holds c.requires.none c.lower-num_at_cur_min.ensures _ _ c.base_for-base.ensures c.table_size-size.ensures

pub slice_bounds-free-end-2 : goal.slice_bounds-free-end-2
slice_bounds-free-end-2 c =
    remaking.rise_part c.requires.held.holds c.requires.none c.lower-num_at_cur_min.ensures _ _ c.base_for-base.ensures c.table_size-size.ensures

pub free-requires : goal.free-requires
free-requires c =
    remaking.freeable c.requires.held.holds c.requires.none c.lower-num_at_cur_min.ensures _ _ c.base_for-base.ensures c.table_size-size.ensures _ (omega arith)

pub rebuild-left-requires : goal.rebuild-left-requires
rebuild-left-requires c =
    remaking.rebuildable c.requires.held.holds c.requires.none c.lower-num_at_cur_min.ensures _ _ c.base_for-base.ensures c.table_size-size.ensures c.if-s-eq0.false _ c.requires.held.spare _ (omega arith)

pub overflow_cast-result : goal.overflow_cast-result
overflow_cast-result c =
    omega (arith, remaking.left_few c.requires.held.holds c.requires.none c.lower-num_at_cur_min.ensures _ _ c.base_for-base.ensures c.table_size-size.ensures c.rebuild-left.ensures (omega arith))

pub returns : goal.returns
returns c =
    remaking.rose_table c.requires.held.holds c.requires.none c.lower-num_at_cur_min.ensures _ _ c.base_for-base.ensures c.table_size-size.ensures c.rebuild-left.ensures c.free.ensures (omega arith) (omega arith) c.rebuild-left.auto.area
