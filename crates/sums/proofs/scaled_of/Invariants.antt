use mathlib.Core.Path.{◌≡◌}
use mathlib.Core.List.{List}
use Prim.Native.Nat.{ℕ, ◌+◌, ◌*◌, ◌^◌, ◌≤◌}
use Rattle.sums.specs.Tally.{Counted}
use Rattle.sums.proofs.Weights.{weighed}
use Rattle.sums.proofs.scaled_of.Given as goal

abbrev pub invariant-loop-many : goal.invariant-loop-many
invariant-loop-many l = (l.n + 4294967295 ≤ 4294967295 * 2 ^ l.many-index) × ((R : List ℕ) → Counted R l.fn.counts → l.n ≡ weighed l.from l.many-index R)
