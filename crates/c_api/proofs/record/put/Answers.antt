-- `c_api::record::put` meets its contract. Assumes nothing.
use Rattle.c_api.proofs.Putting.{putting}
use Rattle.c_api.proofs.record.put.Goals as goal

pub returns : goal.returns
returns c = putting c.keep-kind.ensures c.keep-lg_k.ensures c.keep-cur_min.ensures
