-- `packed::four::put_raw` meets its contract: a nibble is a cell of 4 bits that lies in one byte. Assumes nothing.
use borrow.Author.Rules.{rules}
use native.Mathlib.Omega.{arith}
use Rattle.packed.proofs.Cells.{put_one}
use Rattle.packed.proofs.four.put_raw.Goals as goal

pub overflow_add-regs : goal.overflow_add-regs
overflow_add-regs c = omega arith

pub returns-then-slot-eq0 : goal.returns-then-slot-eq0
returns-then-slot-eq0 c =
    put_one 4 c.args.slot _ 0 c.args.regs.now (λ i. search rules) (omega arith) (omega arith) _ _ c.requires.1 (omega arith) (omega arith)

pub returns-else-slot-eq0 : goal.returns-else-slot-eq0
returns-else-slot-eq0 c =
    put_one 4 c.args.slot _ 4 c.args.regs.now (λ i. search rules) (omega arith) (omega arith) _ _ c.requires.1 (omega arith) (omega arith)
