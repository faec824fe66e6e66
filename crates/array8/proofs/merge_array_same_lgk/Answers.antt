-- `array8::merge_array_same_lgk` meets its contract. What is left to pour in are the source's registers from `slot` on. Assumes nothing.
use mathlib.Core.Path.{sym}
use Prim.Native.Nat.{◌<◌}
use native.Mathlib.Nat.{mod-eq_of_lt}
use native.Mathlib.Omega.{arith}
use lib.ListN.{length, length-set}
use Rattle.model.proofs.registers.Turns.{poured_turn, poured_end, larger_raises}
use Rattle.array8.proofs.merge_array_same_lgk.Goals as goal

pub loop-slot-preserved : goal.loop-slot-preserved
loop-slot-preserved c =
    let loop = c.loop-slot in
    let inside : loop.slot < length c.args.target.now = omega arith in
    (simp length-set loop.invariant.0, poured_turn _ loop.target _ _ _ loop.slot (omega arith) (larger_raises loop.target _ _ _ _ (sym (mod-eq_of_lt inside)) c.larger.ensures) loop.invariant.1)

pub returns : goal.returns
returns c = poured_end _ c.loop-slot.target _ _ _ c.loop-slot-test.false c.loop-slot.invariant.1
