-- `blocks::pour` meets its contract. Assumes nothing.
use Prim.Native.Nat.{ℕ, ◌≤◌}
use Rattle.model.specs.declared.Sketch.{Sketch}
use Rattle.array8.specs.Asked.{Power}
use Rattle.blocks.specs.Asked.{Long, Pourable}
use Rattle.blocks.proofs.Levels.{buffer_long}
-- the length of the blocks
use Rattle.blocks.proofs.pour.Goals as goal

long : {s : Sketch} {n t m : ℕ} (p : Pourable s n t) → ((q : Power t) → 4 ≤ q.lg → Long q.lg m) → Long p.target.lg m
long p f = f p.target p.least

pub slice_bounds-some-end : goal.slice_bounds-some-end
slice_bounds-some-end c = (long c.requires c.block_len-n.ensures).small

pub slice_bounds-pour_by-end : goal.slice_bounds-pour_by-end
slice_bounds-pour_by-end c = buffer_long (long c.requires c.block_len-n.ensures)

pub pour_by-requires : goal.pour_by-requires
pour_by-requires c = let all = long c.requires c.block_len-n.ensures in rw (← buffer_long all) (record { pourable = c.requires; long = all })
