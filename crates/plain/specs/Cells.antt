-- What cells of w bits hold, what is asked of them, and what a coupon and a batch make of them.
use Rattle.std.specs.Prelude.{◌≡◌, List, ℕ, max, ◌*◌, ◌/◌, ◌^◌, ◌<◌, length}
use Rattle.model.specs.Coupon.{value, home}
use Rattle.model.specs.Registers.{fed, count_of}
use Rattle.model.specs.Packed.{number, slot_at, unpacked, Put}
use Rattle.model.specs.Sketch.{Shaped}

-- one of the slots that n bytes are for
pub record Held (w slot n : ℕ) : Type 0 where
  pub lg : ℕ
  pub shaped : Shaped w lg n
  pub inside : slot < 2 ^ lg

-- the bytes of 2 ^ lgk registers, and how many of these are zero
pub record Counted (w lgk zeros : ℕ) (regs : List ℕ) : Type 0 where
  pub shaped : Shaped w lgk (length regs)
  pub zeros_are : zeros ≡ count_of 0 (unpacked w (2 ^ lgk) regs)

-- one coupon taken: the larger value stands in its cell, no other bit is changed, and so many registers are zero
pub record Taken (w lgk : ℕ) (before : List ℕ) (coupon : ℕ) (after : List ℕ) (zeros : ℕ) : Type 0 where
  pub put : Put w before (home (2 ^ lgk) coupon) (max (slot_at w before (home (2 ^ lgk) coupon)) (value coupon)) after
  pub zeros_are : zeros ≡ count_of 0 (unpacked w (2 ^ lgk) after)

-- a batch taken: the registers are fed, the bits behind them are as they were, and so many registers are zero
pub record Given (w lgk : ℕ) (before coupons after : List ℕ) (zeros : ℕ) : Type 0 where
  pub regs : unpacked w (2 ^ lgk) after ≡ fed (2 ^ lgk) (unpacked w (2 ^ lgk) before) coupons
  pub above : number 256 after / 2 ^ (w * 2 ^ lgk) ≡ number 256 before / 2 ^ (w * 2 ^ lgk)
  pub zeros_are : zeros ≡ count_of 0 (unpacked w (2 ^ lgk) after)
