use Prim.Native.Nat.{◌-◌}
use Rattle.array4.specs.Rise.{settled_of}
use Rattle.array4.proofs.Settling as settling
use Rattle.array4.proofs.settle.Given as goal

abbrev pub invariant-loop-risen : goal.invariant-loop-risen
invariant-loop-risen l = settling.Settling l.initial.risen.lg_k (settled_of l.initial.risen l.initial.regs l.initial.aux) l.risen l.regs l.aux

abbrev pub decreases-loop-risen : goal.decreases-loop-risen
decreases-loop-risen l = 63 - l.risen.cur_min
