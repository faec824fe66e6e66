-- What reading a block asks of a caller.
use Rattle.std.specs.Prelude.{◌≡◌, List, ℕ, ◌+◌, ◌%◌, ◌^◌, ◌≤◌, ◌<◌, length, get_or}
use Rattle.model.specs.Table.{base_for, table_size}
use Rattle.model.specs.Sketch.{Shaped, Good}
use Rattle.model.specs.declared.Sketch.{Sketch}
use Rattle.array8.specs.Asked.{Power}
use Rattle.array4_read.specs.Asks.{Tabulated}

-- n bytes of a right shape, and m of its slots from one on, in sixteens
pub record Within (s : Sketch) (n from m : ℕ) : Type 0 where
  pub shaped : Shaped s.kind s.lg_k n
  pub start : from % 16 ≡ 0
  pub long : m % 16 ≡ 0
  pub inside : from + m ≤ 2 ^ s.lg_k

-- n bytes of a right shape, and a cur_min above which each cell stays within a byte
pub record Level (s : Sketch) (n : ℕ) : Type 0 where
  pub shaped : Shaped s.kind s.lg_k n
  pub low : s.cur_min ≤ 63
  pub none : (s.kind ≡ 4 → ⊥) → s.cur_min ≡ 0

-- every number can be raised by so much within a byte
pub record Liftable (by : ℕ) (ns : List ℕ) : Type 0 where
  pub fits : (i : ℕ) → i < length ns → by + get_or ns i 0 < 256

-- n bytes with such a cur_min, and m of its slots
pub record Floor (s : Sketch) (n from m : ℕ) : Type 0 where
  pub level : Level s n
  pub within : Within s n from m

-- a length of blocks that 2 ^ lg registers are a multiple of
pub record Long (lg m : ℕ) : Type 0 where
  pub run : ℕ
  pub power : m ≡ 2 ^ run
  pub least : 4 ≤ run
  pub most : run ≤ lg
  pub small : m ≤ 256

-- n bytes with such a cur_min, and a target of k registers, as many or fewer
pub record Pourable (s : Sketch) (n k : ℕ) : Type 0 where
  pub level : Level s n
  pub target : Power k
  pub least : 4 ≤ target.lg
  pub coarser : target.lg ≤ s.lg_k

-- the same, and a length of blocks
pub record PourableBy (s : Sketch) (n m k : ℕ) : Type 0 where
  pub pourable : Pourable s n k
  pub long : Long pourable.target.lg m

-- a record whose table is within n words, and a target of k registers
pub record Worded (s : Sketch) (n k : ℕ) : Type 0 where
  pub tabulated : s.kind ≡ 4 → Tabulated s
  pub table : s.kind ≡ 4 → table_size (base_for s.lg_k) s.aux_count ≤ n
  pub target : Power k

-- a sketch in good order, and m of its slots
pub record Block (s : Sketch) (regs aux : List ℕ) (from m : ℕ) : Type 0 where
  pub good : Good s regs aux
  pub within : Within s (length regs) from m

-- the same of kind 4
pub record Block4 (s : Sketch) (regs aux : List ℕ) (from m : ℕ) : Type 0 where
  pub block : Block s regs aux from m
  pub four : s.kind ≡ 4
