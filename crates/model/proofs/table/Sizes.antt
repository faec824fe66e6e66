-- The sizes that there are: the base of a table and the number of registers, for every lg_k. Assumes nothing.
use mathlib.Core.Path.{◌≡◌, refl, ◌∙◌, ap, subst}
use Prim.Native.Nat.{ℕ, ◌+◌, ◌-◌, ◌*◌, ◌%◌, ◌^◌, ◌≤◌, ◌<◌}
use native.Mathlib.Omega.{arith}
use lib.Dec.{leb}
use lib.ListN.{get_or}
use lib.Pow.{pow_mono, pow_pos, pow-add}
use Rattle.model.specs.Pick.{both, all}
use Rattle.model.specs.Table.{bases, base_for}
use Rattle.model.proofs.order.Tells.{tells_all, tells_both, tells_le}

-- a base, a power of two, and a number of registers
pub record Sized (base k : ℕ) : Type 0 where
  pub lg : ℕ
  pub power : base ≡ 2 ^ lg
  pub four : 4 ≤ base
  pub most : base ≤ 8192
  pub some : 0 < k
  pub few : k ≤ 2 ^ 21

abbrev Exponent : ℕ → Type 0
Exponent n = (2 ≤ get_or bases n 0) × (get_or bases n 0 ≤ 13)

-- read off the table of bases
exponent : (lgk : ℕ) → 4 ≤ lgk → lgk ≤ 21 → Exponent lgk
unfolding all
exponent lgk l h =
    let e : 4 + (lgk - 4) ≡ lgk = omega arith in
    let test = tells_all (λ i. both (leb 2 (get_or bases (4 + i) 0)) (leb (get_or bases (4 + i) 0) 13)) (λ i. Exponent (4 + i)) 18 (λ i. tells_both _ _ (tells_le _ _) (tells_le _ _)) in
    subst Exponent e (test.0 refl (lgk - 4) (omega arith))

pub sized : (lgk : ℕ) → 4 ≤ lgk → lgk ≤ 21 → Sized (base_for lgk) (2 ^ lgk)
unfolding base_for
sized lgk l h = record {
  lg = get_or bases lgk 0;
  power = refl;
  four = pow_mono (exponent lgk l h).0;
  most = pow_mono (exponent lgk l h).1;
  some = pow_pos lgk;
  few = pow_mono h;
}

-- the number of registers is a multiple of four
pub fours : (lgk : ℕ) → 4 ≤ lgk → 2 ^ lgk % 4 ≡ 0
fours lgk h = let e : 2 ^ lgk ≡ 2 ^ (lgk - 2) * 4 = ap (λ (n : ℕ). 2 ^ n) (omega arith) ∙ pow-add 2 (lgk - 2) 2 in omega arith
