-- `sums::count_in` meets its contract: so few registers leave room in every count. Assumes nothing.
use native.Mathlib.Omega.{arith}
use Rattle.sums.proofs.Tallies.{counted_one, count_few}
use Rattle.sums.proofs.count_in.Goals as goal

pub overflow_add-counts : goal.overflow_add-counts
overflow_add-counts c = rw c.from.ensures (omega (arith, count_few _ _ c.requires.0 c.requires.1))

pub returns : goal.returns
returns c = λ R k. rw c.from.ensures (counted_one R _ _ c.requires.0 k)
