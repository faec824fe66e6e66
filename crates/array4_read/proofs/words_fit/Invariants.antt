use mathlib.Core.Path.{◌≡◌}
use Prim.Native.Nat.{ℕ, ◌<◌}
use lib.ListN.{get_or}
use Rattle.array4_read.specs.Fits.{WordIn}
use Rattle.array4_read.proofs.words_fit.Given as goal

abbrev pub invariant-loop-w : goal.invariant-loop-w
invariant-loop-w l = (p : ℕ) → p < l.w-index → (get_or l.table p 0 ≡ 0 → ⊥) → WordIn l.low l.regs (get_or l.table p 0)
