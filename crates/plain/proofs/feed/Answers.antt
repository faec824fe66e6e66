-- `plain::feed` meets its contract. What is left to do are the coupons from this one on. Assumes nothing.
use mathlib.Core.Path.{◌∙◌}
use native.Mathlib.Omega.{arith}
use Rattle.model.proofs.registers.Turns.{fed_turn, fed_end}
use Rattle.plain.proofs.Coupons.{taken_fed, counted_next, above_next}
use Rattle.plain.proofs.feed.Goals as goal

pub loop-coupon-preserved : goal.loop-coupon-preserved
loop-coupon-preserved g c =
    let loop = c.loop-coupon in
    let one = c.update-zeros.ensures in (
      counted_next loop.invariant.0 _ one,
      above_next loop.invariant.0 _ one g.C.Cells.some ∙ loop.invariant.1,
      fed_turn _ _ _ _ _ loop.coupon-index (omega arith) (taken_fed loop.invariant.0 _ one) loop.invariant.2,
    )

pub returns : goal.returns
returns g c =
    let loop = c.loop-coupon in
    record { regs = fed_end _ _ _ _ loop.coupon-index c.loop-coupon-test.false loop.invariant.2; above = loop.invariant.1; zeros_are = loop.invariant.0.zeros_are }
