use mathlib.Core.Path.{◌≡◌}
use Prim.Native.Nat.{◌+◌}
use lib.ListN.{length}
use Rattle.model.specs.Packed.{Bytes}
use Rattle.model.specs.Registers.{count_of}
use Rattle.survey_six.specs.Six.{Groups}
use Rattle.survey_six.proofs.Zeros.{cells}
use Rattle.survey_six.proofs.count_zeros.Given as goal

abbrev pub invariant-loop-others : goal.invariant-loop-others
invariant-loop-others l = Groups l.others × Bytes l.others × (l.n + count_of 0 (cells l.others) ≡ count_of 0 (cells l.regs))

abbrev pub decreases-loop-others : goal.decreases-loop-others
decreases-loop-others l = length l.others
