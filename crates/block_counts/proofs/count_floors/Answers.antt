-- `block_counts::count_floors` meets its contract. Assumes nothing.
use Rattle.blocks.specs.Asked.{Long}
use Rattle.blocks.proofs.Levels.{buffer_long}
use Rattle.block_counts.proofs.count_floors.Goals as goal
use Rattle.block_counts.proofs.count_floors.Goals.{After-block_len-n}

-- the length of the blocks
long : (c : After-block_len-n) → Long c.args.s.lg_k c.block_len-n.result
long c =
    c.block_len-n.ensures (record { lg = c.args.s.lg_k; power = c.num_registers.ensures }) c.requires.level.shaped.low

pub slice_bounds-some-end : goal.slice_bounds-some-end
slice_bounds-some-end c =
    (long c).small

pub slice_bounds-count_by-end : goal.slice_bounds-count_by-end
slice_bounds-count_by-end c =
    buffer_long (long (goal.at.slice_bounds-count_by-end c).After-block_len-n)

pub count_by-requires : goal.count_by-requires
count_by-requires c =
    let past = goal.at.count_by-requires c in
    rw (← buffer_long (long past.After-block_len-n)) (record { flat = c.requires; long = (long past.After-block_len-n) })
