-- `packed::six::get_raw` meets its contract: a cell of 6 bits in a window of two bytes. Assumes nothing.
use mathlib.Core.Path.{◌∙◌}
use native.Mathlib.Omega.{arith}
use Rattle.model.proofs.packing.Packing.{get_two}
use Rattle.packed.proofs.six.get_raw.Goals as goal

pub returns : goal.returns
returns c =
    c.field.ensures
    ∙ get_two 6 c.args.slot _ _ _ c.args.regs.now (λ i. (c.type_inv.regs i).fits) (omega arith) (omega arith) c.window.ensures
