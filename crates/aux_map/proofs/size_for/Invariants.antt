use mathlib.Core.Path.{◌≡◌}
use Prim.Native.Nat.{ℕ, ◌-◌, ◌*◌, ◌^◌, ◌≤◌, ◌<◌}
use Rattle.aux_map.proofs.size_for.Given as goal

abbrev pub invariant-loop-size : goal.invariant-loop-size
invariant-loop-size l = (n : ℕ) × (n < 32) × (l.size ≡ l.base * 2 ^ n) × ((m : ℕ) → m < n → 3 * (l.base * 2 ^ m) < 4 * l.count) × (4 ≤ l.size) × (l.size < 2 ^ 28)

abbrev pub decreases-loop-size : goal.decreases-loop-size
decreases-loop-size l = 4 * l.count - 3 * l.size
