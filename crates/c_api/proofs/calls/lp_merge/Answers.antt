-- `c_api::calls::lp_merge` meets its contract: the call's own promise, with the record read out of the words. Assumes nothing.
use mathlib.Core.Path.{◌∙◌}
use Rattle.model.proofs.calls.Places.{merge_place}
use Rattle.c_api.proofs.Handing.{made_parts, handing_none}
use Rattle.c_api.proofs.calls.lp_merge.Goals as goal

pub returns : goal.returns
returns c =
    handing_none _ (made_parts _ _ _ _ ∙ rw (c.get-came.ensures, c.get.ensures) at c.merge-merged.ensures) (rw (c.unwrap_or.ensures, c.get-came.ensures) at c.put.ensures) c.number.ensures
    (merge_place _ _ _ _ _)
