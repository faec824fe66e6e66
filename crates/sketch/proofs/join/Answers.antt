-- `sketch::join` meets its contract: by blocks, or kind 8's own merges over what its bytes read as. Assumes nothing.
use mathlib.Core.Path.{◌≡◌, sym, ap, ◌∙◌}
use Rattle.model.specs.Registers.{joined}
use Rattle.model.specs.Sketch.{registers}
use Rattle.model.proofs.order.Plain.{bytes_8}
use Rattle.model.proofs.calls.Has.{checked_good}
use Rattle.sketch.proofs.Merging.{source_8}
use Rattle.sketch.proofs.join.Goals as goal
use Rattle.sketch.proofs.join.Goals.{Else-held-ne8}

-- kind 8's registers are its bytes
reads : (c : Else-held-ne8) → let h = c.args.held in registers h.sketch h.regs.now h.aux.now ≡ h.regs.now
reads c = bytes_8 _ _ _ c.if-held-ne8.false (checked_good c.args.held).shaped c.args.held.bytes

pub returns-then-target-held : goal.returns-then-target-held
returns-then-target-held c = c.merge_array_same_lgk.ensures ∙ ap (joined _ _) (sym (reads (goal.at.returns-then-target-held c).Else-held-ne8))

pub merge_array_with_downsample-requires : goal.merge_array_with_downsample-requires
merge_array_with_downsample-requires c = source_8 c.args.held _ c.requires c.if-held-ne8.false

pub returns-else-target-held : goal.returns-else-target-held
returns-else-target-held c = c.merge_array_with_downsample.ensures ∙ ap (joined _ _) (sym (reads (goal.at.returns-else-target-held c).Else-held-ne8))
