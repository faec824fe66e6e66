-- One coupon, and what a batch of them asks.
use Rattle.std.specs.Prelude.{◌≡◌, Option, Some, None, List, ℕ, ◌*◌, ◌^◌, ◌≤◌, ◌<◌, length, get_or}
use Rattle.model.specs.Packed.{slot_at}
use Rattle.model.specs.Table.{base_for, table_size, Room}
use Rattle.model.specs.Steps.{Step, went, stopped}
use Rattle.model.specs.Four.{State, put4}
use Rattle.model.specs.Sketch.{table_in, Good}
use Rattle.model.specs.Calls.{state_of}
use Rattle.model.specs.declared.Sketch.{Sketch}
use Rattle.array4.specs.Held.{Holds, Held, Rests}

-- a nibble of 15 has a table to look in, and one below 15 a value of 6 bits
pub record Readable (s : Sketch) (aux : List ℕ) (raw : ℕ) : Type 0 where
  pub kind : s.kind ≡ 4
  pub low : 4 ≤ s.lg_k
  pub high : s.lg_k ≤ 21
  pub few : s.aux_count ≤ 2 ^ s.lg_k
  pub most : s.cur_min ≤ 63
  pub fits : table_size (base_for s.lg_k) s.aux_count ≤ length aux
  pub room : 15 ≤ raw → Room (table_in s aux)

-- a value for a slot whose register is below it, and whose nibble is raw
pub record Placeable (s : Sketch) (regs aux scratch : List ℕ) (i raw v : ℕ) : Type 0 where
  pub held : Held s regs aux scratch
  pub inside : i < 2 * length regs
  pub read : raw ≡ slot_at 4 regs i
  pub rises : get_or (state_of s regs aux).regs i 0 < v
  pub small : v < 64

-- the value put into what is read
abbrev pub put_of : Sketch → List ℕ → List ℕ → ℕ → ℕ → Step State
put_of s regs aux i v = put4 (base_for s.lg_k) (length aux) s.cur_min (state_of s regs aux).regs (state_of s regs aux).table i v

-- all memory is as it was
pub record Untouched (regs aux regs' aux' : List ℕ) : Type 0 where
  pub regs_are : regs' ≡ regs
  pub aux_is : aux' ≡ aux

-- what a value put leaves, before the rises, at the old cur_min; None where there is no room, all as it was
abbrev pub Placed : Step State → Option Sketch → Sketch → List ℕ → List ℕ → List ℕ → List ℕ → Type 0
Placed (went b) (Some s') s regs aux regs' aux' = (s'.cur_min ≡ s.cur_min) × Holds s.lg_k b s' regs' aux'
Placed (went b) None s regs aux regs' aux' = ⊥
Placed stopped (Some s') s regs aux regs' aux' = ⊥
Placed stopped None s regs aux regs' aux' = Untouched regs aux regs' aux'

-- what is held is at rest
pub record Resting (s : Sketch) (regs aux scratch : List ℕ) : Type 0 where
  pub rests : Rests s.lg_k (state_of s regs aux) s regs aux
  pub spare : length aux ≤ length scratch

-- what one coupon leaves: the state after it, at rest; None where there is no room, all as it was
abbrev pub Stepped : Step State → Option Sketch → Sketch → List ℕ → List ℕ → List ℕ → List ℕ → Type 0
Stepped (went b) (Some s') s regs aux regs' aux' = Rests s.lg_k b s' regs' aux'
Stepped (went b) None s regs aux regs' aux' = ⊥
Stepped stopped (Some s') s regs aux regs' aux' = ⊥
Stepped stopped None s regs aux regs' aux' = Untouched regs aux regs' aux'

-- a sketch of kind 4 in good order, and a scratch no shorter than its area
pub record Feedable (s : Sketch) (regs aux scratch : List ℕ) : Type 0 where
  pub kind : s.kind ≡ 4
  pub good : Good s regs aux
  pub spare : length aux ≤ length scratch
