use mathlib.Core.Path.{◌≡◌}
use Prim.Native.Nat.{◌+◌}
use lib.ListN.{length, take, replicate}
use Rattle.model.specs.Table.{refill}
use Rattle.aux_map.proofs.grow.Given as goal

abbrev pub invariant-loop-w : goal.invariant-loop-w
invariant-loop-w l = l.into ≡ refill (replicate (length l.table + length l.table) 0) (take l.w-index l.table)
