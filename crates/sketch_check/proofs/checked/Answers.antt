-- `sketch_check::checked` meets its contract: where what else is lent fits, so does all. Assumes nothing.
use mathlib.Core.Path.{refl, sym}
use mathlib.Core.Bool.{true}
use Rattle.model.proofs.calls.Ladder.{check_says}
use Rattle.sketch_check.proofs.checked.Goals as goal

pub invariant_of-result : goal.invariant_of-result
invariant_of-result c =
    let (shaped, (lent, good)) = (check_says _ _ _ _).0 (sym c.in_ok-check.ensures) in
    record { bytes = λ i. (c.type_inv.regs i).fits; passed = (check_says true _ _ _).1 (shaped, (refl, good)) }
