-- `block_counts::count_by` meets its contract. The invariant: `seen` has the counts of the floors passed. Assumes nothing.
use lib.ListN.{length}
use Rattle.blocks.proofs.Levels.{Turn, turn_floor, long_end}
use Rattle.block_counts.proofs.Turns.{turn_asks, turn_counts, turns_end}
use Rattle.block_counts.proofs.count_by.Goals as goal
use Rattle.block_counts.proofs.count_by.Goals.{In-loop-block}

turn : (c : In-loop-block) → let a = c.args in let l = c.loop-block in
    Turn a.s (length a.regs.now) (length a.some.now) l.block (length l.some)
turn c =
    record { level = c.requires.flat.level; long = c.requires.long; inside = rw (← c.num_registers.ensures) c.loop-block-test.true; len = c.loop-block.auto.some }

pub num_registers-requires : goal.num_registers-requires
num_registers-requires c = c.requires.flat.level.shaped.high

pub floors-requires : goal.floors-requires
floors-requires c =
    turn_floor (turn (goal.at.floors-requires c).In-loop-block)

pub count_all-requires : goal.count_all-requires
count_all-requires c =
    turn_asks c.requires (turn (goal.at.count_all-requires c).In-loop-block) c.loop-block.invariant c.floors.ensures

pub loop-block-preserved : goal.loop-block-preserved
loop-block-preserved c =
    let past = goal.at.loop-block-preserved c in
    turn_counts c.requires (turn past.In-loop-block) c.loop-block.invariant c.floors.ensures c.count_all.ensures

pub returns : goal.returns
returns c = turns_end _ _ _ (long_end c.requires.long c.num_registers.ensures c.loop-block.block c.loop-block-test.false) c.loop-block.invariant
