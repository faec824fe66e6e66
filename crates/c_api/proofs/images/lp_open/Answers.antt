-- `c_api::images::lp_open` meets its contract: the call's own promise, with the record read out of the words and number and place told. Assumes nothing.
use mathlib.Core.Path.{◌∙◌}
use Rattle.c_api.proofs.Handing.{made_parts, handing}
use Rattle.c_api.proofs.images.lp_open.Goals as goal

pub returns : goal.returns
returns c = handing _ (made_parts _ _ _ _ ∙ c.open-opened.ensures) (rw (c.unwrap_or.ensures, c.nothing.ensures) at c.put.ensures) c.told.ensures
