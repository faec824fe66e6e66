-- `array8::raise` meets its contract: a store of the larger value, at the slot modulo the number of registers. Assumes nothing.
use Rattle.array8.proofs.Masks.{power_some, index_mask, mask_in}
use Rattle.model.proofs.registers.Turns.{larger_raises}
use Rattle.array8.proofs.raise.Goals as goal

pub overflow_sub-dst_slot : goal.overflow_sub-dst_slot
overflow_sub-dst_slot c = power_some c.requires

pub bounds-target-dst_slot : goal.bounds-target-dst_slot
bounds-target-dst_slot c = mask_in c.requires c.args.slot

pub bounds-target-dst_slot-2 : goal.bounds-target-dst_slot-2
bounds-target-dst_slot-2 c = mask_in c.requires c.args.slot

pub returns : goal.returns
returns c = larger_raises _ _ _ _ _ (index_mask c.requires _) c.larger.ensures
