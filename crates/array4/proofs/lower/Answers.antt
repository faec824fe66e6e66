-- `array4::lower` meets its contract: `Lowering` says what each turn leaves. Assumes nothing.
use mathlib.Core.Path.{◌∙◌}
use Prim.Native.Nat.{◌<◌}
use native.Mathlib.Omega.{arith}
use lib.ListN.{length}
use Rattle.array4.proofs.Lowering as lowering
use Rattle.array4.proofs.lower.Goals as goal

pub loop-byte-init : goal.loop-byte-init
loop-byte-init c = lowering.lowering_none _ (λ i. (c.type_inv.regs i).fits)

pub lower_byte-lowered-requires : goal.lower_byte-lowered-requires
lower_byte-lowered-requires c = lowering.lowering_above c.loop-byte.invariant (omega (arith, c.loop-byte.invariant.long)) c.requires

pub loop-byte-preserved : goal.loop-byte-preserved
loop-byte-preserved c =
    lowering.lowering_more c.loop-byte.invariant (omega (arith, c.loop-byte.invariant.long)) _ _ _ c.lower_byte-lowered.ensures (c.from.ensures ∙ lowering.picked _) (c.from-in-loop-byte.ensures ∙ lowering.picked _)

pub overflow_add-n-in-loop-byte : goal.overflow_add-n-in-loop-byte
overflow_add-n-in-loop-byte c =
    let inside : c.loop-byte.byte-index < length c.args.regs.now = omega (arith, c.loop-byte.invariant.long) in
    let t = lowering.lowering_more c.loop-byte.invariant inside _ _ _ c.lower_byte-lowered.ensures (c.from.ensures ∙ lowering.picked _) (c.from-in-loop-byte.ensures ∙ lowering.picked _) in
    omega (arith, lowering.lowering_few t, t.upto, c.requires.few)

pub returns : goal.returns
returns c = lowering.lowering_all c.loop-byte.invariant (omega (arith, c.loop-byte.invariant.upto, c.loop-byte.invariant.long))
