-- `aux_table::check` meets its contract: as many words as were counted leave a table room to search. Assumes nothing.
use Rattle.aux_table.proofs.Checking as checking
use Rattle.aux_table.proofs.check.Goals as goal

pub in_order-requires : goal.in_order-requires
in_order-requires c =
    checking.walkable _ _ _ c.requires c.if-count.false _ c.table_size-size.ensures c.if-area-size.false _ c.count_used-here.ensures c.if-here-count.false
