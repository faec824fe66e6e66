use mathlib.Core.Path.{◌≡◌}
use lib.ListN.{length}
use Rattle.model.specs.Packed.{slot_at}
use Rattle.model.proofs.packing.Packing.{Filled}
use Rattle.packed.proofs.six.unpack.Given as goal

abbrev pub invariant-loop-slot : goal.invariant-loop-slot
invariant-loop-slot l = (length l.out ≡ length l.initial.out) × Filled (slot_at 6 l.regs) l.out l.slot
