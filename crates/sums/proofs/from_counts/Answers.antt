-- `sums::from_counts` meets its contract: each cast loses nothing, and each quotient is the exact double. Assumes nothing.
use mathlib.Core.Path.{◌≡◌, ap, ap₂, ◌∙◌}
use mathlib.Core.List.{List}
use Prim.Native.Nat.{ℕ, ◌^◌, ◌≤◌}
use native.Mathlib.Omega.{arith}
use lib.Dec.{le→leb}
use lib.Ieee.{in_float, of_bits}
use Rattle.model.specs.Sums.{scaled, ratio}
use Rattle.model.specs.Calls.{Summed}
use Rattle.sums.specs.Tally.{Counted, FewCounted}
use Rattle.model.proofs.calls.Doubles.{scaled_le}
use Rattle.sums.proofs.Dyadic.{ratio_div}
use Rattle.sums.proofs.from_counts.Goals as goal

-- a whole number of so few registers
below : (from n : ℕ) (cs : List ℕ) → FewCounted cs → ((R : List ℕ) → Counted R cs → n ≡ scaled from R) → n ≤ 2 ^ 53
below from n cs f e = omega (arith, e f.regs f.counted, scaled_le from f.regs f.few)

pub int_to_float-result : goal.int_to_float-result
unfolding in_float
int_to_float-result c = le→leb _ (2 ^ 53) (below _ _ _ c.requires c.scaled_of-low.ensures)

pub int_to_float-result-2 : goal.int_to_float-result-2
unfolding in_float
int_to_float-result-2 c = le→leb _ (2 ^ 53) (below _ _ _ c.requires c.scaled_of-high.ensures)

pub returns : goal.returns
unfolding of_bits
returns c = λ R k.
    let few = c.requires in
    let low = c.scaled_of-low in
    let high = c.scaled_of-high in
    ap₂ {C = Summed} (λ x y. record { no = 0; low = x; high = y })
    (ratio_div 31 low.result (below _ _ _ few low.ensures) ∙ ap (ratio 31) (low.ensures R k))
    (ratio_div 63 high.result (below _ _ _ few high.ensures) ∙ ap (ratio 63) (high.ensures R k))
