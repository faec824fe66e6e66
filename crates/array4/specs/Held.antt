-- What stands in memory while a coupon is at work. Between a coupon and its rises cur_min may be below the least register, so this is
-- said at any cur_min that is not above a register.
use Rattle.std.specs.Prelude.{◌≡◌, List, ℕ, ◌*◌, ◌^◌, ◌≤◌, ◌<◌, length, get_or}
use Rattle.model.specs.Registers.{least, count_of}
use Rattle.model.specs.Packed.{slot_at}
use Rattle.model.specs.Table.{base_for, used, laid}
use Rattle.model.specs.Four.{State, nibble, TableAt}
use Rattle.model.specs.Calls.{state_of}
use Rattle.model.specs.declared.Sketch.{Sketch}

-- record, bytes and area hold the state a of 2 ^ lgk registers
pub record Holds (lgk : ℕ) (a : State) (s : Sketch) (regs aux : List ℕ) : Type 0 where
  pub kind : s.kind ≡ 4
  pub size : s.lg_k ≡ lgk
  pub low : 4 ≤ lgk
  pub high : lgk ≤ 21
  pub many : length a.regs ≡ 2 ^ lgk
  pub long : 2 * length regs ≡ length a.regs
  pub floor : (i : ℕ) → i < length a.regs → s.cur_min ≤ get_or a.regs i 0
  pub small : (i : ℕ) → i < length a.regs → get_or a.regs i 0 ≤ 63
  pub table : TableAt (base_for lgk) s.cur_min a.regs a.table
  pub tally : s.num_at_cur_min ≡ count_of s.cur_min a.regs
  pub counted : s.aux_count ≡ used a.table
  pub slots : (i : ℕ) → i < length a.regs → slot_at 4 regs i ≡ nibble s.cur_min (get_or a.regs i 0)
  pub fits : length a.table ≤ length aux
  pub area : aux ≡ laid (length aux) a.table

-- they hold the state that is read of them, and the scratch is no shorter than the area
pub record Held (s : Sketch) (regs aux scratch : List ℕ) : Type 0 where
  pub holds : Holds s.lg_k (state_of s regs aux) s regs aux
  pub spare : length aux ≤ length scratch

-- record, bytes and area hold the state b, at rest: cur_min is the least register
pub record Rests (lgk : ℕ) (b : State) (s : Sketch) (regs aux : List ℕ) : Type 0 where
  pub holds : Holds lgk b s regs aux
  pub rest : s.cur_min ≡ least b.regs
