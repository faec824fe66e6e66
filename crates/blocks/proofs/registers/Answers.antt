-- `blocks::registers` meets its contract: the cells are the registers, but for kind 4. Assumes nothing.
use Rattle.blocks.proofs.Slots.{plain}
use Rattle.blocks.proofs.registers.Goals as goal

pub returns : goal.returns
returns c = plain _ _ _ c.requires c.if-s-eq4.false c.cells.ensures
