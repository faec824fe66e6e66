-- `array4::feed` meets its contract: `Feeding` says what is left of the batch. Assumes nothing.
use mathlib.Core.Path.{◌≡◌, sym, ap, ◌∙◌}
use Prim.Native.Nat.{ℕ}
use lib.ListN.{length}
use Rattle.model.specs.Calls.{out}
use native.Mathlib.Omega.{arith}
use Rattle.array4.proofs.Feeding as feeding
use Rattle.array4.proofs.feed.Goals as goal

pub loop-taken-init : goal.loop-taken-init
loop-taken-init c = feeding.feeding_none c.requires _

pub update-requires : goal.update-requires
update-requires c = feeding.feeding_resting c.loop-taken.invariant _ (omega (arith, c.requires.spare))

pub returns-in_default : goal.returns-in_default
returns-in_default c =
    feeding.feeding_stop c.loop-taken.invariant c.loop-taken-test.true _ _ c.in_default.ensures ∙ feeding.feeding_is _ _ _ _ c.requires.kind

pub loop-taken-preserved : goal.loop-taken-preserved
loop-taken-preserved c =
    feeding.feeding_more c.loop-taken.invariant c.loop-taken-test.true _ _ _ c.in-Some.ensures (λ i. (c.type_inv.regs i).fits) c.update.auto.aux

pub returns : goal.returns
returns c =
    let all : c.loop-taken.taken ≡ length c.args.coupons.now = omega (arith, c.loop-taken.invariant.upto) in
    ap (λ (n : ℕ). out 0 0 c.loop-taken.sketch n c.loop-taken.regs c.loop-taken.aux) (sym all) ∙ feeding.feeding_end c.loop-taken.invariant all ∙ feeding.feeding_is _ _ _ _ c.requires.kind
