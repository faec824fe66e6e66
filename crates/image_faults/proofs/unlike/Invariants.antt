use mathlib.Core.Path.{◌≡◌}
use mathlib.Core.Bool.{false}
use Prim.Native.Nat.{ℕ, ◌≤◌, ◌<◌}
use Rattle.model.specs.Packed.{slot_at}
use Rattle.image_faults.specs.Windows.{unlike_at}
use Rattle.image_faults.proofs.unlike.Given as goal

abbrev pub invariant-loop-s : goal.invariant-loop-s
invariant-loop-s l = (t : ℕ) → t < l.s → l.from ≤ t → unlike_at (slot_at 4 l.bytes) l.marks t ≡ false
