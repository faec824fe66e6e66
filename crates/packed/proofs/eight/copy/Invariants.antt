use mathlib.Core.Path.{◌≡◌}
use lib.ListN.{length}
use lib.Seq.{paste}
use Rattle.packed.proofs.eight.copy.Given as goal

abbrev pub invariant-loop-i : goal.invariant-loop-i
invariant-loop-i g l = (length l.to ≡ length l.from) × (l.to ≡ paste l.initial.to 0 l.from l.i)
