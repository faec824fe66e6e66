-- `c_api::calls::lp_view` meets its contract: the call's own promise, with the record read out of the words. Assumes nothing.
use mathlib.Core.Path.{ap}
use lib.ListN.{length}
use Rattle.c_api.proofs.calls.lp_view.Goals as goal

pub returns : goal.returns
returns c = ap length (rw c.get.ensures at c.view.ensures.0)
