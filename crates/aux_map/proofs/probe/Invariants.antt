use mathlib.Core.Path.{◌≡◌}
use Prim.Native.Nat.{◌<◌}
use lib.ListN.{length}
use Rattle.model.specs.Table.{stride, steps_from, place_from, place}
use Rattle.aux_map.proofs.probe.Given as goal

abbrev pub invariant-loop-w : goal.invariant-loop-w
invariant-loop-w l = (l.at < length l.table) × (place_from l.table l.slot (stride (length l.table) l.slot) l.at ≡ place l.table l.slot)

abbrev pub decreases-loop-w : goal.decreases-loop-w
decreases-loop-w l = steps_from l.table l.slot (stride (length l.table) l.slot) l.at
