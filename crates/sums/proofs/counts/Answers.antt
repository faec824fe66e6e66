-- `sums::counts` meets its contract: all registers, counted in from none on. Assumes nothing.
use mathlib.Core.List.{[]}
use Rattle.sums.proofs.Tallies.{counted_none, registers_countable}
use Rattle.sums.proofs.counts.Goals as goal

pub count_all-requires : goal.count_all-requires
count_all-requires c = registers_countable _ c.requires

pub returns : goal.returns
returns c = c.count_all.ensures [] counted_none
