-- A slot's two bytes are there. Assumes nothing.
use Rattle.array6.proofs.Six.{inside_6}
use Rattle.array6.proofs.Array6Cells.put_raw.Goals as goal

pub put_raw-requires : goal.put_raw-requires
put_raw-requires c = (inside_6 c.requires.0.shaped c.requires.0.inside, c.requires.1)
