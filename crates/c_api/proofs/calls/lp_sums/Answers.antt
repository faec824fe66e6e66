-- `c_api::calls::lp_sums` meets its contract: the call's own promise, with the record read out of the words. Assumes nothing.
use mathlib.Core.Path.{ap}
use Rattle.c_api.specs.Worded.{two_of}
use Rattle.c_api.proofs.calls.lp_sums.Goals as goal

pub returns : goal.returns
returns c = rw c.from.ensures (ap two_of (rw c.get.ensures at c.sums-found.ensures))
