use mathlib.Core.Path.{◌≡◌}
use Prim.Native.Nat.{◌+◌, ◌-◌, ◌≤◌}
use lib.ListN.{length}
use Rattle.job.proofs.Walk.{left, bytes_left}
use Rattle.job.proofs.lines_in.Given as goal

abbrev pub invariant-loop-files : goal.invariant-loop-files
invariant-loop-files l =
    (l.end ≤ length l.job) × (l.files + left l.job (64 - l.files) l.end ≡ left l.job 64 l.at) × (l.end + bytes_left l.job (64 - l.files) l.end ≡ l.at + bytes_left l.job 64 l.at)
