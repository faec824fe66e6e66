-- `array8::merge_block` meets its contract: the block is merged into as many neighbours, from the first one's slot on. Assumes nothing.
use mathlib.Core.Path.{refl}
use Rattle.array8.proofs.Masks.{power_some, block_in}
use Rattle.array8.proofs.Windows.{block_window}
use Rattle.array8.proofs.merge_block.Goals as goal

pub overflow_sub-first_dst : goal.overflow_sub-first_dst
overflow_sub-first_dst c = power_some c.requires.target

pub slice_bounds-merge_array_same_lgk-end : goal.slice_bounds-merge_array_same_lgk-end
slice_bounds-merge_array_same_lgk-end c = block_in c.requires

pub returns : goal.returns
returns c = block_window _ _ c.requires _ refl c.merge_array_same_lgk.ensures
