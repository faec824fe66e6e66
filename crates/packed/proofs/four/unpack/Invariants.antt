use mathlib.Core.Path.{◌≡◌}
use Prim.Native.Nat.{◌*◌}
use lib.ListN.{length}
use Rattle.model.specs.Packed.{slot_at}
use Rattle.model.proofs.packing.Packing.{Filled}
use Rattle.packed.proofs.four.unpack.Given as goal

abbrev pub invariant-loop-at : goal.invariant-loop-at
invariant-loop-at l = (length l.out ≡ length l.initial.out) × Filled (slot_at 4 l.regs) l.out (2 * l.at)
