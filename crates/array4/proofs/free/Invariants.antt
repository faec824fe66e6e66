use Rattle.array4.specs.Rise.{Freed}
use Rattle.array4.proofs.free.Given as goal

abbrev pub invariant-loop-w : goal.invariant-loop-w
invariant-loop-w l = Freed l.table l.value l.w-index l.initial.regs l.regs
