use mathlib.Core.Path.{◌≡◌}
use Prim.Native.Nat.{ℕ, ◌+◌, ◌≤◌}
use lib.ListN.{length, get_or}
use Rattle.model.proofs.packing.Packing.{Filled}
use Rattle.blocks.proofs.lift.Given as goal

abbrev pub invariant-loop-cell : goal.invariant-loop-cell
invariant-loop-cell l = (length l.out ≡ length l.initial.out) × Filled (λ i. l.by + get_or l.initial.out i 0) l.out l.cell-index × ((i : ℕ) → l.cell-index ≤ i → get_or l.out i 0 ≡ get_or l.initial.out i 0)
