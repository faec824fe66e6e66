use mathlib.Core.Path.{◌≡◌}
use lib.ListN.{length}
use Rattle.merge_job.proofs.Turns.{ToCome, SoFar}
use Rattle.merge_job.proofs.merge_all.Given as goal

abbrev pub invariant-loop-i : goal.invariant-loop-i
invariant-loop-i g l = (length l.tregs ≡ length l.initial.tregs) × ToCome l.job l.i l.at × SoFar l.fn.target l.initial.tregs l.i l.sketch l.tregs
