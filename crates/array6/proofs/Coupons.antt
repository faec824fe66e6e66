-- A batch into packed registers: what is behind them stays zero, so that the registers fix the bytes. Assumes nothing.
use mathlib.Core.Path.{◌≡◌, sym, ap, ◌∙◌}
use mathlib.Core.List.{List}
use Prim.Native.Nat.{ℕ, ◌-◌, ◌*◌, ◌/◌, ◌^◌, ◌<◌}
use native.Mathlib.Nat.{div-eq_of_lt, lt-div-mul-add, zero-mul}
use native.Mathlib.Omega.{arith}
use lib.ListN.{length}
use lib.Pow.{pow_pos}
use Rattle.model.specs.Registers.{count_of}
use Rattle.model.specs.Packed.{Bytes, number, unpacked, packed}
use Rattle.model.proofs.packing.Packing.{spare, packed_unpacked}
use Rattle.packed.specs.Room.{Room6}
use Rattle.packed.proofs.Rooms.{room_6}
use Rattle.plain.specs.Cells.{Counted, Given}
use Rattle.array6.specs.Asked.{Counted6, Ready6}
use Rattle.array6.specs.Given.{Fed6}

pub counted_6 : {lgk zeros : ℕ} {regs : List ℕ} → Counted6 lgk zeros regs → Counted 6 lgk zeros regs
counted_6 c = record { shaped = c.shaped; zeros_are = c.zeros_are }

-- no more than the registers' bits
within : (x y m : ℕ) → 0 < m → y < m → x / m ≡ y / m → x < m
within x y m p l e = omega (arith, lt-div-mul-add {a = x} p, ap (λ (n : ℕ). n * m) (e ∙ div-eq_of_lt l), zero-mul m)

module _ {lgk zeros next : ℕ} {regs cs after : List ℕ} (ready : Ready6 lgk zeros regs) (before : Bytes regs) (now : Bytes after) (long : length after ≡ length regs) (g : Given 6 lgk regs cs after next) where
  room : Room6 (2 ^ lgk) (length regs)
  room = let h = ready.counted.shaped in room_6 h.low h.high h.long

  first : number 256 regs < 2 ^ (6 * 2 ^ lgk)
  first = spare 6 (2 ^ lgk) (length regs - 1) regs before (omega (arith, room.bytes)) ready.spare (omega (arith, room.fours, room.bytes))

  pub given_fed : Fed6 lgk regs cs after next
  given_fed = record {
    bytes =
        sym (packed_unpacked 6 (2 ^ lgk) after now (within _ _ _ (pow_pos (6 * 2 ^ lgk)) first g.above))
        ∙ ap (λ (n : ℕ). packed 6 n (unpacked 6 (2 ^ lgk) after)) long ∙ ap (packed 6 (length regs)) g.regs;
    zeros_are = g.zeros_are ∙ ap (count_of 0) g.regs;
  }
