-- The register bytes of a sketch are groups of three and a spare one, and their cells are its registers. Assumes nothing.
use mathlib.Core.Path.{◌≡◌, ap, ◌∙◌}
use mathlib.Core.List.{List}
use Prim.Native.Nat.{ℕ, ◌-◌, ◌*◌, ◌/◌, ◌^◌, ◌≤◌}
use native.Mathlib.Omega.{arith}
use lib.ListN.{length}
use lib.Pow.{pow_mono}
use Rattle.model.specs.Registers.{count_of}
use Rattle.model.specs.Packed.{unpacked}
use Rattle.model.specs.Sketch.{bytes_of}
use Rattle.packed.proofs.Rooms.{room_6}
use Rattle.survey_six.specs.Six.{Groups}

module _ (regs : List ℕ) {lgk : ℕ} (low : 4 ≤ lgk) (high : lgk ≤ 21) (long : length regs ≡ bytes_of 6 lgk) where
  pub groups : Groups regs
  groups =
      let room = room_6 low high long in
      let k : 2 ^ lgk ≤ 2 ^ 21 = pow_mono high in
      record { few = omega (arith, room.fours, room.bytes); threes = omega (arith, room.fours, room.bytes) }

  pub zeros_of : {zeros : ℕ} → zeros ≡ count_of 0 (unpacked 6 ((length regs - 1) / 3 * 4) regs) → zeros ≡ count_of 0 (unpacked 6 (2 ^ lgk) regs)
  zeros_of e =
      let room = room_6 low high long in
      let k : (length regs - 1) / 3 * 4 ≡ 2 ^ lgk = omega (arith, room.fours, room.bytes) in
      e ∙ ap (λ (n : ℕ). count_of 0 (unpacked 6 n regs)) k
