use mathlib.Core.List.{List, ◌++◌}
use Prim.Native.Nat.{ℕ}
use lib.ListN.{take}
use Rattle.sums.specs.Tally.{Counted}
use Rattle.sums.proofs.count_all.Given as goal

abbrev pub invariant-loop-value : goal.invariant-loop-value
invariant-loop-value l = (R : List ℕ) → Counted R l.initial.counts → Counted (R ++ take l.value-index l.regs) l.counts
