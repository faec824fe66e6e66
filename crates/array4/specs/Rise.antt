-- The parts of a rise of cur_min: every nibble lowered, the words that now fit a nibble freed, the table made anew.
use Rattle.std.specs.Prelude.{◌≡◌, List, ℕ, suc, ◌+◌, ◌-◌, ◌*◌, ◌/◌, ◌%◌, ◌^◌, ◌≤◌, ◌<◌, ltb, length, get_or}
use Rattle.model.specs.Pick.{pick}
use Rattle.model.specs.Coupon.{slot, value}
use Rattle.model.specs.Registers.{count_of}
use Rattle.model.specs.Packed.{slot_at, unpacked}
use Rattle.model.specs.Table.{base_for}
use Rattle.model.specs.Four.{State, state, risen, settled}
use Rattle.model.specs.Calls.{state_of}
use Rattle.model.specs.declared.Sketch.{Sketch}
use Rattle.array4.specs.Held.{Holds, Held}

-- a nibble at the next cur_min: one less, but 15 stays, since its value is in the table
abbrev pub lowered : ℕ → ℕ
lowered n = pick (ltb n 15) (n - 1) n

-- both nibbles of a byte
abbrev pub lowered_byte : ℕ → ℕ
lowered_byte b = lowered (b / 16) * 16 + lowered (b % 16)

-- a byte without a nibble of zero
pub record Above (b : ℕ) : Type 0 where
  pub even : 0 < b % 16
  pub odd : 0 < b / 16

-- bytes without a nibble of zero, of no more registers than there may be
pub record Lowerable (regs : List ℕ) : Type 0 where
  pub few : length regs ≤ 2 ^ 20
  pub above : (s : ℕ) → s < 2 * length regs → 0 < slot_at 4 regs s

-- every nibble is lowered, and n of them are then zero
pub record Lowered (before after : List ℕ) (n : ℕ) : Type 0 where
  pub long : length after ≡ length before
  pub slots : (s : ℕ) → s < 2 * length before → slot_at 4 after s ≡ lowered (slot_at 4 before s)
  pub tally : n ≡ count_of 0 (unpacked 4 (2 * length before) after)

-- the words of value v are of slots that there are
pub record Freeable (t : List ℕ) (v : ℕ) (regs : List ℕ) : Type 0 where
  pub inside : (p : ℕ) → p < length t → value (get_or t p 0) ≡ v → slot (get_or t p 0) < 2 * length regs

-- the slots of the first n words, where their value is v, have nibble 14, and the others are as they were
pub record Freed (t : List ℕ) (v n : ℕ) (before after : List ℕ) : Type 0 where
  pub long : length after ≡ length before
  pub moved : (p : ℕ) → p < n → value (get_or t p 0) ≡ v → slot_at 4 after (slot (get_or t p 0)) ≡ 14
  pub left : (s : ℕ) → ((p : ℕ) → p < n → value (get_or t p 0) ≡ v → slot (get_or t p 0) ≡ s → ⊥) → slot_at 4 after s ≡ slot_at 4 before s

-- no register is at cur_min
pub record Risable (s : Sketch) (regs aux scratch : List ℕ) : Type 0 where
  pub held : Held s regs aux scratch
  pub none : s.num_at_cur_min ≡ 0

-- the state a after cur_min has risen by one, from low on
pub record Rose (lgk low : ℕ) (a : State) (s : Sketch) (regs aux : List ℕ) : Type 0 where
  pub next : s.cur_min ≡ suc low
  pub holds : Holds lgk (state a.regs (risen (base_for lgk) (suc low) a.table)) s regs aux

-- what is read, after all rises
abbrev pub settled_of : Sketch → List ℕ → List ℕ → State
settled_of s regs aux = settled (base_for s.lg_k) s.cur_min (state_of s regs aux).regs (state_of s regs aux).table
