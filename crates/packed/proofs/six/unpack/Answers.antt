-- `packed::six::unpack` meets its contract: the cells below `slot` are filled in. Assumes nothing.
use native.Mathlib.Omega.{arith}
use Rattle.model.proofs.packing.Packing.{filled_all}
use Rattle.packed.proofs.six.unpack.Goals as goal

pub returns : goal.returns
returns c =
    let loop = c.loop-slot in
    filled_all 6 _ _ loop.out loop.invariant.0 (λ i h. loop.invariant.1 i (omega arith))
