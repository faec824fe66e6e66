-- Kind 6: where a slot's bytes are; and what is in good order can be fed. Assumes nothing.
use mathlib.Core.Path.{◌≡◌, ap}
use mathlib.Core.Bool.{true}
use mathlib.Core.List.{List}
use Prim.Native.Nat.{ℕ, ◌^◌, ◌<◌}
use lib.ListN.{length}
use Rattle.model.specs.Packed.{unpacked}
use Rattle.model.specs.Sketch.{cells, Shaped}
use Rattle.model.specs.Check.{good_of}
use Rattle.model.specs.declared.Sketch.{Sketch}
use Rattle.model.proofs.order.Tests.{spare_tells, tally_tells, good_asks}
use Rattle.packed.specs.Room.{Slot6}
use Rattle.packed.proofs.Rooms.{room_6, slot_6}
use Rattle.array6.specs.Asked.{Ready6}

-- the two bytes of a slot are there
pub inside_6 : {lgk n slot : ℕ} → Shaped 6 lgk n → slot < 2 ^ lgk → Slot6 slot n
inside_6 h l = slot_6 (room_6 h.low h.high h.long) l

module _ (s : Sketch) (regs : List ℕ) (of_kind : s.kind ≡ 6) (shaped : Shaped 6 s.lg_k (length regs)) where
  cells_are : cells s regs ≡ unpacked 6 (2 ^ s.lg_k) regs
  unfolding cells
  cells_are = ap (λ (w : ℕ). unpacked w (2 ^ s.lg_k) regs) of_kind

  pub six_ready : (aux : List ℕ) → good_of s regs aux ≡ true → Ready6 s.lg_k s.num_at_cur_min regs
  six_ready aux e =
      let p = (good_asks s regs aux).0 e in
      let zeros = ((tally_tells s regs).0 p.tally).0 in
      record { counted = record { shaped = shaped; zeros_are = rw cells_are at zeros }; spare = (spare_tells s regs).0 p.spare of_kind }
