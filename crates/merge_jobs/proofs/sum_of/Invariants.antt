use Prim.Native.Nat.{◌<◌}
use Rattle.merge_jobs.proofs.sum_of.Given as goal

abbrev pub invariant-loop-b : goal.invariant-loop-b
invariant-loop-b l = l.sum < 4294967291
