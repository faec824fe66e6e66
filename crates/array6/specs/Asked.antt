-- What the functions of this crate ask of a caller.
use Rattle.std.specs.Prelude.{◌≡◌, List, ℕ, ◌-◌, ◌^◌, length, get_or}
use Rattle.model.specs.Registers.{count_of}
use Rattle.model.specs.Packed.{unpacked}
use Rattle.model.specs.Sketch.{Shaped}

-- the bytes of 2 ^ lgk registers, and how many of these are zero
pub record Counted6 (lgk zeros : ℕ) (regs : List ℕ) : Type 0 where
  pub shaped : Shaped 6 lgk (length regs)
  pub zeros_are : zeros ≡ count_of 0 (unpacked 6 (2 ^ lgk) regs)

-- the same, and the spare byte is zero: the registers then fix the bytes
pub record Ready6 (lgk zeros : ℕ) (regs : List ℕ) : Type 0 where
  pub counted : Counted6 lgk zeros regs
  pub spare : get_or regs (length regs - 1) 0 ≡ 0
