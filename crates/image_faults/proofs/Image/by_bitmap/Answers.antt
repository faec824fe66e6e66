-- `image_faults::Image::by_bitmap` meets its contract. Assumes nothing.
use Prim.Native.Nat.{ℕ}
use native.Mathlib.Omega.{arith}
use lib.ListN.{length-replicate}
use Rattle.image_faults.proofs.Bits.{zeros_clear}
use Rattle.image_faults.proofs.Image.by_bitmap.Goals as goal

pub window_in-requires : goal.window_in-requires
window_in-requires g c = let p = c.requires in (p.0, record { room = omega (arith, p.2, length-replicate g.row.N (let x : ℕ = 0 in x)); clear = zeros_clear g.row.N }, p.1)
