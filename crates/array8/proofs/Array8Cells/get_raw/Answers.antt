-- A cell is the byte. Assumes nothing.
use mathlib.Core.Path.{sym, ◌∙◌}
use Rattle.array8.proofs.Coupons.{held_8, cell_8}
use Rattle.array8.proofs.Array8Cells.get_raw.Goals as goal

pub get-requires : goal.get-requires
get-requires c = held_8 c.requires

pub returns : goal.returns
returns c = c.get.ensures ∙ sym (cell_8 _ (λ i. (c.type_inv.regs i).fits) c.args.slot)
