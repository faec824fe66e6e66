-- `c_api::images::lp_feed_image` meets its contract: the call's own promise, with the record read out of the words and number and place told. Assumes nothing.
use mathlib.Core.Path.{◌∙◌}
use Rattle.c_api.proofs.Handing.{handing}
use Rattle.c_api.proofs.images.lp_feed_image.Goals as goal

pub returns : goal.returns
returns c = handing _ (c.parted-answer.ensures _ _ ∙ rw c.get.ensures at c.feed_image.ensures) c.put.ensures c.told.ensures
