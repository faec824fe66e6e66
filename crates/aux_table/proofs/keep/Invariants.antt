use mathlib.Core.Path.{◌≡◌}
use Prim.Native.Nat.{◌+◌, ◌-◌, ◌≤◌}
use lib.ListN.{length, drop}
use Rattle.model.specs.Table.{keeps}
use Rattle.aux_table.proofs.keep.Given as goal

abbrev pub invariant-loop-w : goal.invariant-loop-w
invariant-loop-w l =
    (goal.iterator-loop-w).can_next l.w-iterator × (goal.iterator-loop-w).is_finite l.w-iterator × (l.top ≤ length l.into) × (length l.into ≤ l.top + length l.yielded)
    × (drop l.top l.into ≡ keeps l.limit (drop (length l.table - length l.yielded) l.table))
