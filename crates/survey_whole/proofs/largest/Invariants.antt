use mathlib.Core.Path.{◌≡◌}
use Prim.Native.Nat.{◌*◌, ◌/◌}
use Rattle.survey_whole.proofs.Counted.{top}
use Rattle.survey_whole.proofs.largest.Given as goal

abbrev pub invariant-loop-byte : goal.invariant-loop-byte
invariant-loop-byte l = l.most ≡ top l.width l.regs (8 / l.width * l.byte-index)
