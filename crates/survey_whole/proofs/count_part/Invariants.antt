use mathlib.Core.Path.{◌≡◌}
use Prim.Native.Nat.{◌*◌, ◌≤◌}
use lib.ListN.{take}
use Rattle.std.specs.List.{sum_by}
use Rattle.survey_whole.proofs.Counted.{hit}
use Rattle.survey_whole.proofs.count_part.Given as goal

abbrev pub invariant-loop-byte : goal.invariant-loop-byte
invariant-loop-byte l = (l.n ≤ 2 * l.byte-index) × (l.n ≡ sum_by (hit l.width l.is) (take l.byte-index l.part))
