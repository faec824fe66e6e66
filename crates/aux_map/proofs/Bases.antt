-- The rule of the 27 base exponents, by one test over the table: none is above 18, and from lg_k 1 on none is below 2. Assumes nothing.
use mathlib.Core.Path.{refl}
use mathlib.Core.Bool.{true}
use Prim.Native.Nat.{ℕ, ◌^◌, ◌≤◌, ◌<◌}
use native.Mathlib.Omega.{arith}
use lib.Dec.{leb, ltb}
use lib.ListN.{get_or}
use lib.Pow.{pow_mono}
use Rattle.model.specs.Pick.{pick, both, all}
use Rattle.model.specs.Table.{bases, base_for}
use Rattle.model.proofs.order.Tells.{tells_all, tells_both, tells_if, tells_le, tells_lt}
use Rattle.aux_map.specs.Sizes.{Listed, Based, Sizable}

rule : (k : ℕ) → k < 27 → (get_or bases k 0 ≤ 18) × (0 < k → 2 ≤ get_or bases k 0)
unfolding all
rule =
    (tells_all (λ k. both (leb (get_or bases k 0) 18) (pick (ltb 0 k) (leb 2 (get_or bases k 0)) true))
    (λ k. (get_or bases k 0 ≤ 18) × (0 < k → 2 ≤ get_or bases k 0)) 27
    (λ k. tells_both _ _ (tells_le (get_or bases k 0) 18) (tells_if _ _ (tells_lt 0 k) (tells_le 2 (get_or bases k 0))))).0 refl

pub exponent_most : (k : ℕ) → k < 27 → get_or bases k 0 ≤ 18
exponent_most k h = (rule k h).0

-- what `Based` asks is so of every base from lg_k 1 on
pub based : (lgk : ℕ) → 1 ≤ lgk → lgk ≤ 26 → Based (base_for lgk)
unfolding base_for
based lgk l h = record {
  lg = get_or bases lgk 0;
  power = refl;
  four = pow_mono ((rule lgk (omega arith)).1 l);
  most = pow_mono (rule lgk (omega arith)).0;
}

-- and what `Listed` and `Sizable` ask is so of a sketch's lg_k and of a count that its registers bound
pub listed : (lgk : ℕ) → lgk ≤ 21 → Listed lgk
listed lgk h = record { below = omega arith }

pub sizable : (lgk count : ℕ) → 4 ≤ lgk → lgk ≤ 21 → count ≤ 2 ^ lgk → Sizable (base_for lgk) count
sizable lgk count l h c = record { based = based lgk (omega arith) (omega arith); few = omega (arith, pow_mono h) }
