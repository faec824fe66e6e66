-- `packed::four::get_raw` meets its contract: a nibble is a cell of 4 bits that lies in one byte. Assumes nothing.
use Prim.Native.Nat.{◌/◌}
use native.Mathlib.Omega.{arith}
use Rattle.packed.proofs.Cells.{get_one}
use Rattle.packed.proofs.four.get_raw.Goals as goal

pub returns-then-slot-eq0 : goal.returns-then-slot-eq0
returns-then-slot-eq0 c =
    let given = c.type_inv.regs in
    omega (arith, get_one 4 c.args.slot (c.args.slot / 2) 0 c.args.regs.now (λ i. (given i).fits) (omega arith) (omega arith))

pub returns-else-slot-eq0 : goal.returns-else-slot-eq0
returns-else-slot-eq0 c =
    let given = c.type_inv.regs in
    omega (arith, given (c.args.slot / 2), get_one 4 c.args.slot (c.args.slot / 2) 4 c.args.regs.now (λ i. (given i).fits) (omega arith) (omega arith))
