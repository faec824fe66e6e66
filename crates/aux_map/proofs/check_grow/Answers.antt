-- `aux_map::check_grow` meets its contract: `Growing` says what each step leaves. Assumes nothing.
use Rattle.aux_map.proofs.Growing as growing
use Rattle.aux_map.proofs.check_grow.Goals as goal

pub returns-then-count-size : goal.returns-then-count-size
returns-then-count-size c = growing.stays _ _ _ _ c.requires c.if-count-size.true

pub returns : goal.returns
returns c =
    growing.grows _ _ _ _ c.requires c.if-count-size.false _ c.copy.ensures _ c.grow.ensures
