-- `packed::four::unpack` meets its contract: the two cells of each byte below `at` are filled in. Assumes nothing.
use native.Mathlib.Omega.{arith}
use lib.ListN.{length-set}
use Rattle.model.proofs.packing.Packing.{filled_all}
use Rattle.packed.proofs.Cells.{filled_pair}
use Rattle.packed.proofs.four.unpack.Goals as goal

pub loop-at-preserved : goal.loop-at-preserved
loop-at-preserved c =
    let loop = c.loop-at in
    (simp length-set loop.invariant.0, filled_pair _ loop.out (λ i. (c.type_inv.regs i).fits) loop.at loop.invariant.1 (omega arith))

pub returns : goal.returns
returns c =
    let loop = c.loop-at in
    filled_all 4 _ _ loop.out loop.invariant.0 (λ i h. loop.invariant.1 i (omega arith))
