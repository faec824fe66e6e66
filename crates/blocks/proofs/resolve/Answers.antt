-- `blocks::resolve` meets its contract: the slots passed are filled in. Assumes nothing.
use mathlib.Core.Path.{refl}
use native.Mathlib.Omega.{arith}
use lib.ListN.{length-set}
use Rattle.model.proofs.packing.Packing.{filled_more}
use Rattle.blocks.proofs.Slots.{block_filled}
use Rattle.blocks.proofs.resolve.Goals as goal

pub loop-i-preserved : goal.loop-i-preserved
loop-i-preserved c =
    let loop = c.loop-i in
    (simp length-set loop.invariant.0, filled_more _ loop.out loop.i _ _ refl loop.invariant.1 (omega arith) c.get.ensures)

pub returns : goal.returns
returns c =
    let loop = c.loop-i in
    block_filled _ _ _ _ _ c.requires.block loop.out loop.invariant.0 (λ n h. loop.invariant.1 n (omega (arith, c.loop-i-test.false, loop.invariant.0)))
