use Rattle.model.specs.Calls.{state_of}
use Rattle.array4.proofs.Feeding as feeding
use Rattle.array4.proofs.feed.Given as goal

abbrev pub invariant-loop-taken : goal.invariant-loop-taken
invariant-loop-taken l = feeding.Feeding l.initial.sketch.lg_k (state_of l.initial.sketch l.initial.regs l.initial.aux) l.initial.aux l.coupons l.taken l.sketch l.regs l.aux
