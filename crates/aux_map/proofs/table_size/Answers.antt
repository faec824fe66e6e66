-- `aux_map::table_size` meets its contract: the test of the count picks the answer. Assumes nothing.
use borrow.Author.Tests.{eq-eqb, ne_eqb}
use Rattle.model.specs.Table.{table_size}
use Rattle.aux_map.proofs.table_size.Goals as goal

pub returns-then-count-eq0 : goal.returns-then-count-eq0
unfolding table_size
returns-then-count-eq0 c = rw (eq-eqb _ 0 c.if-count-eq0.true)

pub returns-else-count-eq0 : goal.returns-else-count-eq0
unfolding table_size
returns-else-count-eq0 c = rw (ne_eqb _ 0 c.if-count-eq0.false) c.size_for.ensures
