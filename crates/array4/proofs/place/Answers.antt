-- `array4::place` meets its contract: `Placing` and `Excepting` say what each case leaves. Assumes nothing.
use native.Mathlib.Omega.{arith}
use Rattle.array4.proofs.Holding.{holds_count, holds_sizable}
use Rattle.array4.proofs.Placing as placing
use Rattle.array4.proofs.Excepting as excepting
use Rattle.array4.proofs.place.Goals as goal

pub count_left-num_at_cur_min-requires : goal.count_left-num_at_cur_min-requires
count_left-num_at_cur_min-requires c =
    placing.num_some c.requires

pub returns-then-value-s : goal.returns-then-value-s
returns-then-value-s c =
    placing.placed_plain c.requires c.if-value-s.true _ _ c.count_left-num_at_cur_min.ensures c.put_raw.ensures

pub size_for-size-requires : goal.size_for-size-requires
size_for-size-requires c =
    holds_sizable c.requires.held.holds _ _ c.base_for-base.ensures (omega arith)

pub replace-requires : goal.replace-requires
replace-requires c =
    excepting.replaceable c.requires c.if-value-s.false _ _ c.base_for-base.ensures c.size_for-size.ensures c.if-raw-eq-AUX_TOKEN.true

pub returns-then-raw-eq-AUX_TOKEN : goal.returns-then-raw-eq-AUX_TOKEN
returns-then-raw-eq-AUX_TOKEN c =
    excepting.placed_replace c.requires c.if-value-s.false _ _ c.base_for-base.ensures c.size_for-size.ensures c.if-raw-eq-AUX_TOKEN.true _ c.replace.ensures c.replace.auto.table

pub size_for-need-requires : goal.size_for-need-requires
size_for-need-requires c =
    holds_sizable c.requires.held.holds _ _ c.base_for-base.ensures (omega arith)

pub returns-then-aux-need : goal.returns-then-aux-need
returns-then-aux-need c =
    excepting.placed_none c.requires c.if-value-s.false _ _ c.base_for-base.ensures c.size_for-size.ensures c.if-raw-eq-AUX_TOKEN.false _ c.size_for-need.ensures c.if-aux-need.true

pub word-requires : goal.word-requires
word-requires c =
    (placing.slot_small c.requires, c.requires.small)

pub insert-requires : goal.insert-requires
insert-requires c =
    rw c.word.ensures (excepting.insertable c.requires c.if-value-s.false _ _ c.base_for-base.ensures c.size_for-size.ensures c.if-raw-eq-AUX_TOKEN.false _ c.size_for-need.ensures c.if-aux-need.false)

pub overflow_add-result : goal.overflow_add-result
overflow_add-result c =
    omega (arith, holds_count c.requires.held.holds)

pub returns : goal.returns
returns c =
    excepting.placed_insert c.requires c.if-value-s.false _ _ c.base_for-base.ensures c.size_for-size.ensures c.if-raw-eq-AUX_TOKEN.false _ c.size_for-need.ensures c.if-aux-need.false _ _ c.count_left-num_at_cur_min.ensures c.put_raw-2.ensures _ _ _ c.insert.auto.area
    (rw c.word.ensures at c.insert.ensures)
