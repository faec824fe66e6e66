-- `block_counts::counts` meets its contract: the floors counted, and one register moved for each word. Assumes nothing.
use mathlib.Core.Path.{◌≡◌}
use native.Mathlib.Omega.{arith}
use lib.ListN.{take}
use Rattle.model.specs.Sketch.{table_in}
use Rattle.model.proofs.calls.Has.{checked_good}
use Rattle.array4_read.proofs.Held as held
use Rattle.block_counts.proofs.Turns.{good_small, plain_counted, words_room, none_moved, top_is, top_many, words_moved}
use Rattle.block_counts.proofs.counts.Goals as goal
use Rattle.block_counts.proofs.counts.Goals.{After-table_len-size}

-- the table is the area's front
front : (c : After-table_len-size) → let h = c.args.held in take c.table_len-size.result h.aux.now ≡ table_in h.sketch h.aux.now
front c =
    held.front _ _ _ c.if-s-ne4.false (checked_good c.args.held) _ c.table_len-size.ensures

pub count_floors-requires : goal.count_floors-requires
count_floors-requires c = good_small _ _ _ (checked_good c.args.held)

pub returns-then-s-ne4 : goal.returns-then-s-ne4
returns-then-s-ne4 c = plain_counted _ _ _ (checked_good c.args.held) c.if-s-ne4.true c.count_floors.ensures

pub table_len-size-requires : goal.table_len-size-requires
table_len-size-requires c = held.tabulated _ _ _ c.if-s-ne4.false (checked_good c.args.held)

pub slice_bounds-count_words-end : goal.slice_bounds-count_words-end
slice_bounds-count_words-end c = held.part _ _ _ c.if-s-ne4.false (checked_good c.args.held) _ c.table_len-size.ensures

pub count_words-moved-requires : goal.count_words-moved-requires
count_words-moved-requires c =
    words_room _ _ _ (checked_good c.args.held) c.if-s-ne4.false c.count_floors.ensures (front (goal.at.count_words-moved-requires c).After-table_len-size)

pub returns-then-moved-eq0 : goal.returns-then-moved-eq0
returns-then-moved-eq0 c =
    none_moved _ _ _ (checked_good c.args.held) c.if-s-ne4.false c.count_floors.ensures (front (goal.at.returns-then-moved-eq0 c).After-table_len-size) c.count_words-moved.ensures c.if-moved-eq0.true

pub overflow_add-s : goal.overflow_add-s
overflow_add-s c =
    let top = top_is _ _ _ (checked_good c.args.held) c.if-s-ne4.false c.count_floors.ensures (front (goal.at.overflow_add-s c).After-table_len-size) c.count_words-moved.ensures c.if-moved-eq0.false in
    omega arith

pub count_out-requires : goal.count_out-requires
count_out-requires c =
    let past = goal.at.count_out-requires c in
    let four = c.if-s-ne4.false in
    let floored = c.count_floors.ensures in
    let counted = c.count_words-moved.ensures in (
      top_is _ _ _ (checked_good c.args.held) four floored (front past.After-table_len-size) counted c.if-moved-eq0.false,
      top_many _ _ _ (checked_good c.args.held) four floored (front past.After-table_len-size) counted c.if-moved-eq0.false,
    )

pub returns : goal.returns
returns c =
    let counted = c.count_words-moved.ensures in
    words_moved _ _ _ (checked_good c.args.held) c.if-s-ne4.false c.count_floors.ensures (front (goal.at.returns c).After-table_len-size) counted c.if-moved-eq0.false c.count_out.ensures
