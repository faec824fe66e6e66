-- A slot's two bytes are there. Assumes nothing.
use Rattle.array6.proofs.Six.{inside_6}
use Rattle.array6.proofs.Array6Cells.get_raw.Goals as goal

pub get_raw-requires : goal.get_raw-requires
get_raw-requires c = inside_6 c.requires.shaped c.requires.inside
