-- `c_api::calls::lp_feed` meets its contract: the call's own promise, with the record read out of the words. Assumes nothing.
use mathlib.Core.Path.{◌∙◌}
use Rattle.model.proofs.calls.Places.{feed_place}
use Rattle.c_api.proofs.Handing.{handing_none}
use Rattle.c_api.proofs.calls.lp_feed.Goals as goal

pub returns : goal.returns
returns c = handing_none _ (c.parted-answer.ensures _ _ ∙ rw c.get.ensures at c.feed.ensures) c.put.ensures c.number.ensures (feed_place _ _ _ _ _)
