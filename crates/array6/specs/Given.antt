-- What the functions of this crate give.
use Rattle.std.specs.Prelude.{◌≡◌, List, ℕ, max, ◌^◌, length}
use Rattle.model.specs.Coupon.{value, home}
use Rattle.model.specs.Registers.{fed, count_of}
use Rattle.model.specs.Packed.{slot_at, unpacked, packed, Put}

-- one coupon taken: the larger value stands in its cell, no other bit is changed, and so many registers are zero
pub record Taken6 (lgk : ℕ) (before : List ℕ) (coupon : ℕ) (after : List ℕ) (zeros : ℕ) : Type 0 where
  pub put : Put 6 before (home (2 ^ lgk) coupon) (max (slot_at 6 before (home (2 ^ lgk) coupon)) (value coupon)) after
  pub zeros_are : zeros ≡ count_of 0 (unpacked 6 (2 ^ lgk) after)

-- the bytes of the registers fed coupons, and how many of these are then zero
pub record Fed6 (lgk : ℕ) (before coupons after : List ℕ) (zeros : ℕ) : Type 0 where
  pub bytes : after ≡ packed 6 (length before) (fed (2 ^ lgk) (unpacked 6 (2 ^ lgk) before) coupons)
  pub zeros_are : zeros ≡ count_of 0 (fed (2 ^ lgk) (unpacked 6 (2 ^ lgk) before) coupons)
