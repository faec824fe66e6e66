-- `sums::count_out` meets its contract. Assumes nothing.
use Rattle.sums.proofs.Tallies.{counted_out}
use Rattle.sums.proofs.count_out.Goals as goal

pub returns : goal.returns
returns c = λ L R k less. rw c.from.ensures (counted_out L R _ _ _ c.requires.0 k less)
