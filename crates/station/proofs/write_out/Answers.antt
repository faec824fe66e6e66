-- `station::write_out` meets its contract: that of `write`, computed at the kind 4 sketch. Assumes nothing.
use Rattle.station.proofs.Toured.{writes, flats}
use Rattle.station.proofs.write_out.Goals as goal

pub expected-len-requires : goal.expected-len-requires
expected-len-requires c = writes c.requires _ _ c.write.ensures

pub returns : goal.returns
returns c = flats c.requires _ _ c.write.ensures c.expected-len.ensures
