use mathlib.Core.Path.{◌≡◌}
use Prim.Native.Nat.{◌≤◌}
use lib.ListN.{take}
use Rattle.model.specs.Table.{used}
use Rattle.aux_table.proofs.count_used.Given as goal

abbrev pub invariant-loop-w : goal.invariant-loop-w
invariant-loop-w l = (l.n ≤ l.w-index) × (l.n ≡ used (take l.w-index l.table))
