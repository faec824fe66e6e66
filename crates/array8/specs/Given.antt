-- What the functions of this crate give.
use Rattle.std.specs.Prelude.{◌≡◌, List, ℕ, ◌^◌}
use Rattle.model.specs.Registers.{fed, count_of}

-- registers fed coupons, and how many are then zero
pub record Fed (lgk : ℕ) (before coupons after : List ℕ) (zeros : ℕ) : Type 0 where
  pub regs : after ≡ fed (2 ^ lgk) before coupons
  pub zeros_are : zeros ≡ count_of 0 (fed (2 ^ lgk) before coupons)
