-- The code's mask is the book's remainder. Assumes nothing.
use mathlib.Core.Path.{◌≡◌, sym, ◌∙◌, subst}
use Prim.Native.Nat.{ℕ, ◌+◌, ◌-◌, ◌%◌, ◌^◌, ◌≤◌, ◌<◌}
use native.Mathlib.Nat.{mod-lt}
use native.Mathlib.Omega.{arith}
use lib.Bits.{bit_and, and_mask}
use lib.Pow.{mod-mod-pow, pow_pos}
use Rattle.model.specs.Coupon.{slot, home}

-- a home among 2 ^ lgk registers
pub home_mask : (lgk c : ℕ) → lgk ≤ 26 → bit_and c (2 ^ lgk - 1) ≡ home (2 ^ lgk) c
home_mask lgk c h =
    let e : 26 - lgk + lgk ≡ 26 = omega arith in
    and_mask c lgk ∙ sym (subst (λ (n : ℕ). c % 2 ^ n % 2 ^ lgk ≡ c % 2 ^ lgk) e (mod-mod-pow c (26 - lgk) lgk))

pub home_in : (lgk c : ℕ) → home (2 ^ lgk) c < 2 ^ lgk
home_in lgk c = mod-lt (slot c) (pow_pos lgk)
