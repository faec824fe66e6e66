-- A cell is the byte. Assumes nothing.
use borrow.Author.Rules.{rules}
use native.Mathlib.Omega.{arith}
use Rattle.array8.proofs.Coupons.{held_8, put_8}
use Rattle.array8.proofs.Array8Cells.put_raw.Goals as goal

pub bounds-regs-slot : goal.bounds-regs-slot
bounds-regs-slot c = held_8 c.requires.0

pub returns : goal.returns
returns c = put_8 c.args.regs.now (λ i. search rules) _ _ (held_8 c.requires.0) (omega (arith, c.requires.1))
