-- What is counted of cells of 4 and of 8 bits.
use Rattle.std.specs.Prelude.{◌≡◌, ◌⊎◌, List, ℕ, zero, suc, max, ◌+◌, ◌/◌, ◌%◌, ◌^◌, ◌≤◌, eqb, length}
use Rattle.model.specs.Pick.{pick, both}

-- 4 or 8 bits
pub record Width (w : ℕ) : Type 0 where
  pub is : (w ≡ 4) ⊎ (w ≡ 8)

-- r of a byte's cells are m
pub record Hits (w byte m r : ℕ) : Type 0 where
  pub is : r ≡ pick (eqb w 8) (pick (eqb byte m) 1 0) (pick (eqb (byte % 16) m) 1 0 + pick (eqb (byte / 16) m) 1 0)
  pub most : r ≤ 2

-- no more bytes than the largest sketch has: their cells can be counted
pub record Cells (w : ℕ) (regs : List ℕ) : Type 0 where
  pub width : Width w
  pub few : length regs ≤ 2 ^ 21

-- bytes whose cells a byte can count
pub record Part (w : ℕ) (part : List ℕ) : Type 0 where
  pub width : Width w
  pub short : length part ≤ 127

-- a cell that is no token, or 0: a nibble of 15 stands for an exception
abbrev pub plain : ℕ → ℕ → ℕ
plain w n = pick (both (eqb w 4) (eqb n 15)) 0 n

-- the largest such cell of a byte
abbrev pub highest : ℕ → ℕ → ℕ
highest w byte = pick (eqb w 8) byte (max (plain 4 (byte % 16)) (plain 4 (byte / 16)))

-- the largest of f below n, or 0
unfoldable pub most : (ℕ → ℕ) → ℕ → ℕ
most f zero = 0
most f (suc n) = max (most f n) (f n)
