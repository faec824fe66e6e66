-- `table_len` meets its contract. Assumes nothing.
use Rattle.aux_map.proofs.Bases.{sizable}
use Rattle.array4_read.proofs.table_len.Goals as goal

pub table_size-requires : goal.table_size-requires
table_size-requires c =
    rw c.base_for-base.ensures (sizable _ _ c.requires.low c.requires.high c.requires.few)
