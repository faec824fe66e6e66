-- What the functions of this crate, and of the other kinds, ask of a caller.
use Rattle.std.specs.Prelude.{◌≡◌, List, ℕ, ◌+◌, ◌%◌, ◌^◌, ◌≤◌, length}
use Rattle.model.specs.Registers.{count_of}

-- a number of registers: the code's mask is then a remainder
pub record Power (k : ℕ) : Type 0 where
  pub lg : ℕ
  pub power : k ≡ 2 ^ lg

-- a target of k registers, and a source of n, as many or more
pub record Finer (k n : ℕ) : Type 0 where
  pub target : Power k
  pub source : Power n
  pub most : k ≤ n

-- a target of k registers, and n registers of a source from slot `from` on, of which none starts anew at the target's first
pub record Blocked (k from n : ℕ) : Type 0 where
  pub target : Power k
  pub inside : from % k + n ≤ k

-- 2 ^ lgk registers, and how many of them are zero
pub record Ready (lgk zeros : ℕ) (regs : List ℕ) : Type 0 where
  pub low : 4 ≤ lgk
  pub high : lgk ≤ 21
  pub long : length regs ≡ 2 ^ lgk
  pub zeros_are : zeros ≡ count_of 0 regs
