use mathlib.Core.Path.{◌≡◌}
use Prim.Native.Nat.{◌+◌, ◌*◌}
use lib.ListN.{drop}
use Rattle.std.specs.List.{sum_by}
use Rattle.survey_whole.specs.declared.TheConstants.{PART}
use Rattle.survey_whole.proofs.Counted.{hit}
use Rattle.survey_whole.proofs.count.Given as goal

abbrev pub invariant-loop-part : goal.invariant-loop-part
invariant-loop-part l = l.n + sum_by (hit l.width l.is) (drop (PART * l.part-index) l.regs) ≡ sum_by (hit l.width l.is) l.regs
