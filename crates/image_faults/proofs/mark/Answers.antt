-- `image_faults::mark` meets its contract. Assumes nothing.
use native.Mathlib.Omega.{arith}
use Rattle.image_faults.proofs.Bits.{bit_fits, bit_put}
use Rattle.image_faults.proofs.mark.Goals as goal

pub overflow_add-marks : goal.overflow_add-marks
overflow_add-marks c = omega (arith, bit_fits _ (λ i. (c.slice_known-1.given i).fits) _ c.requires.1)

pub returns : goal.returns
returns c = bit_put _ (λ i. (c.slice_known-1.given i).fits) _ c.requires.1 (omega arith)
