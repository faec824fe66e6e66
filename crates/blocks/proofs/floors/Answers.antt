-- `blocks::floors` meets its contract: the cells, lifted. Assumes nothing.
use Rattle.blocks.proofs.Levels.{block_fits, block_floors, block_low}
use Rattle.blocks.proofs.floors.Goals as goal

pub returns-then-s-eq0 : goal.returns-then-s-eq0
returns-then-s-eq0 c = block_low _ _ c.requires c.cells.ensures c.if-s-eq0.true

pub lift-requires : goal.lift-requires
lift-requires c = block_fits _ _ c.requires c.cells.ensures

pub returns : goal.returns
returns c = block_floors _ _ c.requires c.cells.ensures c.lift.ensures
