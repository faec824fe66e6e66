use mathlib.Core.Path.{◌≡◌}
use Prim.Native.Nat.{◌+◌}
use lib.ListN.{length, get_or}
use Rattle.model.specs.Sketch.{registers}
use Rattle.model.proofs.packing.Packing.{Filled}
use Rattle.blocks.proofs.resolve.Given as goal

abbrev pub invariant-loop-i : goal.invariant-loop-i
invariant-loop-i l = (length l.out ≡ length l.initial.out) × Filled (λ j. get_or (registers l.s l.regs l.aux) (l.from + j) 0) l.out l.i
