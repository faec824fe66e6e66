-- What a kind owes to the calls and the claims, which know nothing else of it: `Lawful`. Assumes nothing.
use mathlib.Core.Path.{◌≡◌}
use mathlib.Core.List.{List, []}
use Prim.Native.Nat.{ℕ, ◌^◌, ◌≤◌, ◌<◌}
use lib.ListN.{length, get_or}
use Rattle.model.specs.Pick.{Tells}
use Rattle.model.specs.Coupon.{value, home}
use Rattle.model.specs.Registers.{raise, least}
use Rattle.model.specs.Packed.{Bytes}
use Rattle.model.specs.Table.{base_for}
use Rattle.model.specs.Steps.{went, stopped}
use Rattle.model.specs.Four.{State, TableAt, NoRoom}
use Rattle.model.specs.Sketch.{record_of, stored, area_of, registers, table_in, Shaped, Good}
use Rattle.model.specs.Check.{good_of}
use Rattle.model.specs.Calls.{state_of, step_of}
use Rattle.model.specs.declared.Sketch.{Sketch}

-- a state that is possible: k registers of 6 bits and, for kind 4 alone, a table of their exceptions that the area has room for
pub record Sound (kind lgk room : ℕ) (a : State) : Type 0 where
  pub long : length a.regs ≡ 2 ^ lgk
  pub small : (i : ℕ) → i < length a.regs → get_or a.regs i 0 ≤ 63
  pub table : kind ≡ 4 → TableAt (base_for lgk) (least a.regs) a.regs a.table
  pub fits : kind ≡ 4 → length a.table ≤ room
  pub none : (kind ≡ 4 → ⊥) → a.table ≡ []

-- a sketch in good order, of that kind and size, that holds the state a
pub record Has (kind lgk : ℕ) (a : State) (s : Sketch) (regs aux : List ℕ) : Type 0 where
  pub good : Good s regs aux
  pub same_kind : s.kind ≡ kind
  pub same_size : s.lg_k ≡ lgk
  pub holds : registers s regs aux ≡ a.regs
  pub table : table_in s aux ≡ a.table

pub record Lawful (kind : ℕ) : Type 0 where
  -- what is kept of a possible state is in good order and holds it
  pub kept : (lgk : ℕ) (a : State) (aux : List ℕ) → 4 ≤ lgk → lgk ≤ 21 → Sound kind lgk (length aux) a
      → Has kind lgk a (record_of kind lgk a.regs) (stored kind lgk a.regs) (area_of kind a.table aux)
  -- what is in good order holds a possible state
  pub sound : (s : Sketch) (regs aux : List ℕ) → s.kind ≡ kind → Good s regs aux → Sound kind s.lg_k (length aux) (state_of s regs aux)
  -- a coupon that is taken raises its register
  pub goes : (lgk room : ℕ) (a b : State) (c : ℕ) → 4 ≤ lgk → lgk ≤ 21 → Sound kind lgk room a → step_of kind lgk room a c ≡ went b
      → Sound kind lgk room b × (b.regs ≡ raise a.regs (home (2 ^ lgk) c) (value c))
  -- one that is not would make a new exception that finds no room, and only such a one
  pub stops : (lgk room : ℕ) (a : State) (c : ℕ) → 4 ≤ lgk → lgk ≤ 21 → Sound kind lgk room a → step_of kind lgk room a c ≡ stopped
      → (kind ≡ 4) × NoRoom (base_for lgk) room a.regs (home (2 ^ lgk) c) (value c)
  pub stops_only : (lgk room : ℕ) (a : State) (c : ℕ) → 4 ≤ lgk → lgk ≤ 21 → Sound kind lgk room a
      → kind ≡ 4 → NoRoom (base_for lgk) room a.regs (home (2 ^ lgk) c) (value c) → step_of kind lgk room a c ≡ stopped
  -- the test that a program makes tells good order, both ways
  pub tells : (s : Sketch) (regs aux : List ℕ) → s.kind ≡ kind → Shaped s.kind s.lg_k (length regs) → Bytes regs → Tells (good_of s regs aux) (Good s regs aux)
