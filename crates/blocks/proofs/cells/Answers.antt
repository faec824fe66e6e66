-- `blocks::cells` meets its contract: each kind's own way, over the bytes that the slots lie in. Assumes nothing.
use native.Mathlib.Omega.{arith}
use Rattle.blocks.proofs.Slots.{fits_8, fits_6, fits_4, is_4, part_6, cells_8, cells_6, cells_4}
use Rattle.blocks.proofs.cells.Goals as goal

pub slice_bounds-copy-end : goal.slice_bounds-copy-end
slice_bounds-copy-end c = fits_8 c.requires c.in-8.is

pub returns-in-8 : goal.returns-in-8
returns-in-8 c =
    cells_8 _ _ c.requires (λ i. (c.type_inv.regs i).fits) c.in-8.is c.copy.ensures

pub slice_bounds-unpack-end : goal.slice_bounds-unpack-end
slice_bounds-unpack-end c = fits_6 c.requires c.in-6.is

pub unpack-requires : goal.unpack-requires
unpack-requires c = part_6 _ c.requires c.in-6.is

pub returns-in-6 : goal.returns-in-6
returns-in-6 c =
    cells_6 _ _ c.requires (λ i. (c.type_inv.regs i).fits) c.in-6.is c.unpack.ensures

pub slice_bounds-unpack-end-in_default : goal.slice_bounds-unpack-end-in_default
slice_bounds-unpack-end-in_default c = fits_4 c.requires (is_4 c.requires (λ e. omega arith) (λ e. omega arith))

pub returns-in_default : goal.returns-in_default
returns-in_default c =
    cells_4 _ _ c.requires (λ i. (c.type_inv.regs i).fits) (is_4 c.requires (λ e. omega arith) (λ e. omega arith)) c.unpack-in_default.ensures
