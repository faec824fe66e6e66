use mathlib.Core.Path.{◌≡◌}
use Prim.Native.Nat.{◌*◌, ◌/◌, ◌^◌}
use lib.ListN.{drop}
use Rattle.model.specs.Registers.{fed}
use Rattle.model.specs.Packed.{number, unpacked}
use Rattle.plain.specs.Cells.{Counted}
use Rattle.plain.proofs.feed.Given as goal

abbrev pub invariant-loop-coupon : goal.invariant-loop-coupon
invariant-loop-coupon g l =
    let w = g.C.Cells.width in
    let k = 2 ^ l.lg_k in
    Counted w l.lg_k l.zeros l.regs × (number 256 l.regs / 2 ^ (w * k) ≡ number 256 l.initial.regs / 2 ^ (w * k)) × (fed k (unpacked w k l.regs) (drop l.coupon-index l.coupons) ≡ fed k (unpacked w k l.initial.regs) l.coupons)
