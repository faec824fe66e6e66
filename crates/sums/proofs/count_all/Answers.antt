-- `sums::count_all` meets its contract. The invariant: the counts are of the registers before and of those passed. Assumes nothing.
use Rattle.sums.proofs.Tallies.{next_asks, counted_next, counted_all}
use Rattle.sums.proofs.count_all.Goals as goal

pub count_in-requires : goal.count_in-requires
count_in-requires c = next_asks _ c.loop-value.value-index c.loop-value-test.true c.requires c.loop-value.invariant

pub loop-value-preserved : goal.loop-value-preserved
loop-value-preserved c = λ R k. counted_next _ c.loop-value.value-index c.loop-value-test.true R _ (c.count_in.ensures _ (c.loop-value.invariant R k))

pub returns : goal.returns
returns c = λ R k. counted_all _ c.loop-value.value-index R _ c.loop-value-test.false (c.loop-value.invariant R k)
