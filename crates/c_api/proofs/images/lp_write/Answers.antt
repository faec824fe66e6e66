-- `c_api::images::lp_write` meets its contract: the call's own promise, with the record read out of the words. Assumes nothing.
use mathlib.Core.Path.{◌∙◌}
use Rattle.c_api.proofs.Handing.{wrote_parts}
use Rattle.c_api.proofs.images.lp_write.Goals as goal

pub returns : goal.returns
returns c = rw (c.number.ensures, c.unwrap_or.ensures) (wrote_parts _ _ ∙ rw c.get.ensures at c.write-written.ensures)
