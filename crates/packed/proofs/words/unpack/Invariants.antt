use mathlib.Core.Path.{◌≡◌}
use lib.ListN.{length}
use Rattle.model.specs.Packed.{slot_at}
use Rattle.model.proofs.packing.Packing.{Filled}
use Rattle.packed.proofs.words.unpack.Given as goal

abbrev pub invariant-loop-i : goal.invariant-loop-i
invariant-loop-i l = (length l.out ≡ length l.initial.out) × Filled (slot_at 32 l.bytes) l.out l.i
