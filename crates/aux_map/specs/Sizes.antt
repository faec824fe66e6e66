-- What the functions on sizes ask.
use Rattle.std.specs.Prelude.{◌≡◌, ℕ, ◌^◌, ◌≤◌, ◌<◌}

-- the table of base exponents has an entry for lg_k
pub record Listed (lgk : ℕ) : Type 0 where
  pub below : lgk < 27

-- a power of two
pub record Power (n : ℕ) : Type 0 where
  pub lg : ℕ
  pub power : n ≡ 2 ^ lg

-- a base, as `bases` has them from lg_k 1 on: a power of two from 4 to 2 ^ 18
pub record Based (base : ℕ) : Type 0 where
  pub lg : ℕ
  pub power : base ≡ 2 ^ lg
  pub four : 4 ≤ base
  pub most : base ≤ 2 ^ 18

-- a base, and no more words than there are slots
pub record Sizable (base count : ℕ) : Type 0 where
  pub based : Based base
  pub few : count < 2 ^ 26
