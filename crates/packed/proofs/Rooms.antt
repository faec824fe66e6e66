-- What this crate's functions ask is met by the register bytes of a sketch. Assumes nothing.
use mathlib.Core.Path.{◌≡◌, sym, ap, ◌∙◌}
use Prim.Native.Nat.{ℕ, ◌-◌, ◌*◌, ◌^◌, ◌≤◌, ◌<◌}
use native.Mathlib.Nat.{le_trans, sub-add_cancel}
use native.Mathlib.Omega.{arith}
use lib.Pow.{pow-add, pow_mono}
use lib.Dec.{lit≤}
use Rattle.model.specs.Sketch.{bytes_of}
use Rattle.model.proofs.packing.Lengths.{bytes_six, bytes_four}
use Rattle.packed.specs.Room.{Slot6, Room6}

-- k registers: a multiple of 16, so whole groups of four cells in three bytes, and whole bytes of two
sixteens : {lgk : ℕ} → 4 ≤ lgk → 2 ^ lgk ≡ 2 ^ (lgk - 4) * 16
sixteens {lgk} low = ap (λ (x : ℕ). 2 ^ x) (sym (sub-add_cancel low)) ∙ pow-add 2 (lgk - 4) 4

pub room_6 : {lgk n : ℕ} → 4 ≤ lgk → lgk ≤ 21 → n ≡ bytes_of 6 lgk → Room6 (2 ^ lgk) n
room_6 low high long = record { few = le_trans (pow_mono high) (lit≤ tt); fours = omega (arith, sixteens low); bytes = long ∙ bytes_six _ }

-- each slot of a room
pub slot_6 : {k n slot : ℕ} → Room6 k n → slot < k → Slot6 slot n
slot_6 room h = record { few = omega arith; inside = omega arith }

-- so a slot below k is below 2 * n, as a nibble asks
pub room_4 : {lgk n : ℕ} → 4 ≤ lgk → n ≡ bytes_of 4 lgk → 2 ^ lgk ≡ 2 * n
room_4 {lgk} low long = omega (arith, sixteens low, bytes_four lgk)
