-- `packed::words::word_at` meets its contract. Assumes nothing.
use native.Mathlib.Omega.{arith}
use Rattle.packed.proofs.Cells.{cell_bytes}
use Rattle.packed.proofs.words.word_at.Goals as goal

pub returns : goal.returns
returns c = omega (arith, c.from_le_bytes.ensures, cell_bytes _ (λ i. (c.type_inv.bytes i).fits) c.args.i)
