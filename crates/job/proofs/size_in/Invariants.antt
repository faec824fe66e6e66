use mathlib.Core.Path.{◌≡◌}
use mathlib.Core.Bool.{false}
use Prim.Native.Nat.{ℕ, ◌+◌, ◌<◌}
use Rattle.text.specs.Text.{stands_at}
use Rattle.job.specs.Job.{size_line}
use Rattle.job.proofs.size_in.Given as goal

abbrev pub invariant-loop-lg_k : goal.invariant-loop-lg_k
invariant-loop-lg_k l = (m : ℕ) → 4 + m < l.lg_k → stands_at (size_line (4 + m)) l.job ≡ false
