-- `c_api::calls::lp_unpack` meets its contract: the call's own promise, with the record read out of the words. Assumes nothing.
use Rattle.c_api.proofs.calls.lp_unpack.Goals as goal

pub returns : goal.returns
returns c = rw c.number.ensures (rw c.get.ensures at c.unpack.ensures)
