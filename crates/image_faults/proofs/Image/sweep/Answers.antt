-- `image_faults::Image::sweep` meets its contract: the windows reach the last slot. Assumes nothing.
use mathlib.Core.Path.{refl, sym}
use native.Mathlib.Omega.{arith}
use Rattle.model.proofs.packing.Packing.{length_unpacked, get_or_unpacked}
use Rattle.image_faults.proofs.Sweeping.{sweep_ends}
use Rattle.image_faults.proofs.Image.sweep.Goals as goal

pub returns : goal.returns
returns c =
    sweep_ends c.windows.ensures _ _ (length_unpacked 32 _ _) (λ i d. sym (get_or_unpacked 32 _ _ i d)) (λ t d. sym (get_or_unpacked 4 _ _ t d)) refl (omega (arith, c.slots.ensures))
