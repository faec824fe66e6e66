-- A register raised: what is stored, and the least register after it. Assumes nothing.
use mathlib.Core.Path.{◌≡◌, sym, ◌∙◌, ap}
use mathlib.Core.List.{List}
use Prim.Native.Nat.{ℕ, ◌≤◌, ◌<◌}
use native.Mathlib.Omega.{arith}
use native.Mathlib.Decide.{ℕ_discrete}
use lib.ListN.{length, get_or, set}
use lib.Seq.{set-get_or}
use Rattle.model.specs.Registers.{raise, least}
use Rattle.model.proofs.registers.Raising.{length_raise, raise_same, raise_other}
use Rattle.model.proofs.registers.Lowest.{least_le, least_ge, least_most}

-- a larger value is stored, and another changes nothing
pub raise_up : (R : List ℕ) (s v : ℕ) → get_or R s 0 < v → set R s v ≡ raise R s v
unfolding raise
raise_up R s v h = ap (λ (x : ℕ). set R s x) (omega arith)

pub raise_not : (R : List ℕ) (s v : ℕ) → v ≤ get_or R s 0 → R ≡ raise R s v
unfolding raise
raise_not R s v h = sym (ap (λ (x : ℕ). set R s x) (omega arith) ∙ set-get_or R s 0)

pub raise_least : (R : List ℕ) (s v : ℕ) → least R ≤ least (raise R s v)
raise_least R s v = least_ge (raise R s v) (least R) (least_most R) (λ i l. go i (rw length_raise at l) (ℕ_discrete s i))
  where
    go : (i : ℕ) → i < length R → Dec (s ≡ i) → least R ≤ get_or (raise R s v) i 0
    go i k (yes e) = rw (← e) (omega (arith, raise_same R s v (rw (← e) at k), least_le R s (rw (← e) at k)))
    go i k (no e) = omega (arith, raise_other R s i v e, least_le R i k)
