-- What the functions on a whole sketch ask of a caller.
use Rattle.std.specs.Prelude.{◌≡◌, List, ℕ, ◌^◌, ◌≤◌, ◌<◌, length}
use Rattle.model.specs.Registers.{count_of}
use Rattle.model.specs.Sketch.{cells, Shaped, Good}
use Rattle.model.specs.declared.Sketch.{Sketch}

-- a size that there is, and no more exceptions than registers
pub record Tabulated (s : Sketch) : Type 0 where
  pub low : 4 ≤ s.lg_k
  pub high : s.lg_k ≤ 21
  pub few : s.aux_count ≤ 2 ^ s.lg_k

-- kind 4, of a right shape, and how many of its nibbles are 15; the area may be damaged
pub record Checkable (s : Sketch) (regs : List ℕ) (tokens : ℕ) : Type 0 where
  pub four : s.kind ≡ 4
  pub shaped : Shaped 4 s.lg_k (length regs)
  pub few : s.aux_count ≤ 2 ^ s.lg_k
  pub counted : tokens ≡ count_of 15 (cells s regs)

-- kind 4 in good order, and one of its slots
pub record Readable (s : Sketch) (regs aux : List ℕ) (slot : ℕ) : Type 0 where
  pub four : s.kind ≡ 4
  pub good : Good s regs aux
  pub inside : slot < 2 ^ s.lg_k
