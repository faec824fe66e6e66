use Rattle.array4.proofs.Lowering as lowering
use Rattle.array4.proofs.lower.Given as goal

abbrev pub invariant-loop-byte : goal.invariant-loop-byte
invariant-loop-byte l = lowering.Lowering l.initial.regs l.regs l.n l.byte-index
