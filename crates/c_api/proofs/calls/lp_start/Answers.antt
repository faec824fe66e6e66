-- `c_api::calls::lp_start` meets its contract: the call's own promise, with the record read out of the words. Assumes nothing.
use mathlib.Core.Path.{◌∙◌}
use Rattle.model.proofs.calls.Places.{start_place}
use Rattle.c_api.proofs.Handing.{made_parts, handing_none}
use Rattle.c_api.proofs.calls.lp_start.Goals as goal

pub returns : goal.returns
returns c =
    handing_none _ (made_parts _ _ _ _ ∙ rw (c.narrow.ensures, c.narrow-2.ensures) at c.start-made.ensures) (rw (c.unwrap_or.ensures, c.nothing.ensures) at c.put.ensures) c.number.ensures
    (start_place _ _ _ _)
