-- `c_api::record::get` meets its contract. Assumes nothing.
use Rattle.c_api.specs.Words.{record_in}
use Rattle.c_api.proofs.record.get.Goals as goal

pub returns : goal.returns
unfolding record_in
returns c = cc
