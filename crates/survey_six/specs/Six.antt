-- What is counted of cells of 6 bits, four in three bytes.
use Rattle.std.specs.Prelude.{◌≡◌, List, ℕ, ◌+◌, ◌-◌, ◌/◌, ◌%◌, ◌^◌, ◌≤◌, ◌<◌, length}
use Rattle.std.specs.Int.Bits.{bit_and}

-- r is 1 where P holds, and 0 where it does not
pub record Flag (P : Type 0) (r : ℕ) : Type 0 where
  pub yes : P → r ≡ 1
  pub no : (P → ⊥) → r ≡ 0
  pub most : r ≤ 1

-- r of the cells that begin in a byte are zero, where its last cell begins with bit e and begins is 2 ^ e: with bit 6 it is the second
pub record Both (byte next begins r : ℕ) : Type 0 where
  pub a : ℕ
  pub b : ℕ
  pub first : Flag (byte % 64 < begins / 64) a
  pub last : Flag ((byte < begins) × (bit_and next (begins / 4 - 1) ≡ 0)) b
  pub is : r ≡ a + b

-- the bytes of groups of four cells, and a spare one
pub record Groups (regs : List ℕ) : Type 0 where
  pub few : length regs ≤ 2 ^ 21
  pub threes : length regs % 3 ≡ 1

-- bytes whose cells a byte can count
pub record Part (part : List ℕ) : Type 0 where
  pub groups : Groups part
  pub short : length part ≤ 49
