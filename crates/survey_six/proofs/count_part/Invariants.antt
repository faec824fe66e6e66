use mathlib.Core.Path.{◌≡◌}
use Prim.Native.Nat.{◌+◌, ◌*◌, ◌≤◌}
use Rattle.survey_six.proofs.Zeros.{left}
use Rattle.survey_six.proofs.count_part.Given as goal

abbrev pub invariant-loop-i : goal.invariant-loop-i
invariant-loop-i l = (l.n ≤ 2 * l.i) × (l.n + left l.part l.i ≡ left l.part 0)
