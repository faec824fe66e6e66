-- `array4::settle` meets its contract: `Settling` says what is left of the rises. Assumes nothing.
use native.Mathlib.Omega.{arith}
use Rattle.array4.proofs.Holding.{holds_held}
use Rattle.array4.proofs.Settling as settling
use Rattle.array4.proofs.settle.Goals as goal

pub shift_to_bigger_cur_min-risen-requires : goal.shift_to_bigger_cur_min-risen-requires
shift_to_bigger_cur_min-risen-requires c =
    record { held = holds_held c.loop-risen.invariant.holds _ (omega (arith, c.requires.spare)); none = c.loop-risen-test.true }

pub loop-risen-preserved : goal.loop-risen-preserved
loop-risen-preserved c = settling.settling_more c.loop-risen.invariant c.loop-risen-test.true c.shift_to_bigger_cur_min-risen.ensures

pub returns : goal.returns
returns c = settling.settling_end c.loop-risen.invariant c.loop-risen-test.false
