-- `survey_whole::largest` meets its contract. Assumes nothing.
use native.Mathlib.Omega.{arith}
use Rattle.model.specs.Packed.{Bytes}
use Rattle.survey_whole.proofs.Counted.{top_none, top_turn}
use Rattle.survey_whole.proofs.largest.Goals as goal

pub loop-byte-init : goal.loop-byte-init
loop-byte-init c = top_none c.args.width c.args.regs.now

pub loop-byte-preserved : goal.loop-byte-preserved
loop-byte-preserved c =
    let regs = c.args.regs.now in
    let bytes : Bytes regs = λ i. (c.type_inv.regs i).fits in
    top_turn regs bytes c.loop-byte.byte-index c.loop-byte-test.true c.requires.width _ _ c.loop-byte.invariant (omega (arith, c.max-most.ensures, c.top.ensures))
