use Prim.Native.Nat.{◌*◌}
use lib.ListN.{take}
use Rattle.model.specs.Sketch.{floors}
use Rattle.sums.specs.Tally.{Counted}
use Rattle.block_counts.proofs.count_by.Given as goal

abbrev pub invariant-loop-block : goal.invariant-loop-block
invariant-loop-block l = Counted (take (l.block * l.n) (floors l.s l.regs)) l.seen
