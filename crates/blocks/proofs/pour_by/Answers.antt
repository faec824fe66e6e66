-- `blocks::pour_by` meets its contract. What is left to pour in are the floors from this block on. Assumes nothing.
use native.Mathlib.Omega.{arith}
use lib.ListN.{length}
use Rattle.model.proofs.registers.Turns.{poured_end}
use Rattle.blocks.proofs.Levels.{floors_long, Turn, turn_few, turn_floor, long_end, pour_long, pour_block, pour_next}
use Rattle.blocks.proofs.pour_by.Goals as goal
use Rattle.blocks.proofs.pour_by.Goals.{In-loop-block}

turn : (c : In-loop-block) → let a = c.args in let l = c.loop-block in
    Turn a.s (length a.regs.now) (length a.some.now) l.block (length l.some)
turn c =
    record { level = c.requires.pourable.level; long = pour_long c.requires; inside = rw (← c.num_registers.ensures) c.loop-block-test.true; len = c.loop-block.auto.some }

pub num_registers-requires : goal.num_registers-requires
num_registers-requires c = c.requires.pourable.level.shaped.high

pub overflow_mul-from : goal.overflow_mul-from
overflow_mul-from c =
    omega (arith, turn_few (turn (goal.at.overflow_mul-from c).In-loop-block))

pub floors-requires : goal.floors-requires
floors-requires c =
    turn_floor (turn (goal.at.floors-requires c).In-loop-block)

pub merge_block-requires : goal.merge_block-requires
merge_block-requires c =
    pour_block c.requires (turn (goal.at.merge_block-requires c).In-loop-block) _ c.floors.ensures c.loop-block.auto.target

pub loop-block-preserved : goal.loop-block-preserved
loop-block-preserved c =
    let past = goal.at.loop-block-preserved c in
    pour_next c.requires (turn past.In-loop-block) _ c.floors.ensures c.loop-block.target _ _ c.loop-block.auto.target c.merge_block.ensures c.loop-block.invariant

pub returns : goal.returns
returns c =
    let loop = c.loop-block in
    let a = c.args in
    poured_end _ loop.target _ _ _ (omega (arith, long_end (pour_long c.requires) c.num_registers.ensures loop.block c.loop-block-test.false, floors_long a.s a.regs.now)) loop.invariant
