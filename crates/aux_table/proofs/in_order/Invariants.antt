use mathlib.Core.Path.{◌≡◌}
use Prim.Native.Nat.{ℕ, ◌<◌}
use lib.ListN.{get_or}
use Rattle.model.specs.Coupon.{slot}
use Rattle.model.specs.Table.{place}
use Rattle.aux_table.proofs.in_order.Given as goal

abbrev pub invariant-loop-at : goal.invariant-loop-at
invariant-loop-at l = (p : ℕ) → p < l.at → (get_or l.table p 0 ≡ 0 → ⊥) → place l.table (slot (get_or l.table p 0)) ≡ p
