-- The specimens, by computing. Assumes nothing.
use mathlib.Core.Path.{refl}
use Rattle.model.specs.Specimens.{at, begun, fed_with, image_with, image_from, record_from, fault_with, list_with, set_with, said_from, table, Specimens}
use Rattle.model.proofs.Computing.{book}

pub specimens : Specimens
unfolding book at begun fed_with image_with image_from record_from fault_with list_with set_with said_from table
specimens = refl
