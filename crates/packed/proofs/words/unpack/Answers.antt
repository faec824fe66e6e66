-- `packed::words::unpack` meets its contract: the cells below `i` are filled in. Assumes nothing.
use native.Mathlib.Omega.{arith}
use Rattle.model.proofs.packing.Packing.{filled_all}
use Rattle.packed.proofs.words.unpack.Goals as goal

pub returns : goal.returns
returns c =
    let loop = c.loop-i in
    filled_all 32 _ _ loop.out loop.invariant.0 (λ i h. loop.invariant.1 i (omega arith))
