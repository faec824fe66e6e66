-- What the check of the exception table tells of its words.
use Rattle.std.specs.Prelude.{◌≡◌, List, ℕ, ◌+◌, ◌*◌, ◌^◌, ◌≤◌, ◌<◌, length, get_or}
use Rattle.model.specs.Coupon.{slot, value}
use Rattle.model.specs.Packed.{slot_at}

-- no more bytes than the largest sketch has
pub record Few (regs : List ℕ) : Type 0 where
  pub few : length regs ≤ 2 ^ 20

-- at cur_min low, a word is of a slot whose nibble is 15, and its value is high enough
pub record WordIn (low : ℕ) (regs : List ℕ) (w : ℕ) : Type 0 where
  pub inside : slot w < 2 * length regs
  pub token : slot_at 4 regs (slot w) ≡ 15
  pub high : low + 15 ≤ value w
  pub whole : w < 2 ^ 32

-- every word of a table is so
pub record WordsIn (low : ℕ) (regs t : List ℕ) : Type 0 where
  pub each : (p : ℕ) → p < length t → (get_or t p 0 ≡ 0 → ⊥) → WordIn low regs (get_or t p 0)
