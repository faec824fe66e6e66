use Prim.Native.Nat.{◌-◌}
use lib.ListN.{length, drop}
use Rattle.aux_table.proofs.Building.{Turn}
use Rattle.aux_table.proofs.build.Given as goal

abbrev pub invariant-loop-j : goal.invariant-loop-j
invariant-loop-j l = Turn l.base l.top (length l.initial.area) (drop l.top l.initial.scratch) l.area l.scratch l.size (l.j - l.top) l.j
