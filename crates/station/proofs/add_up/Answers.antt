-- `station::add_up` meets its contract: that of `sums`, computed at the joined sketch. Both doubles are numbers, so they have bits. Assumes nothing.
use Rattle.station.proofs.Toured.{low_is, high_is, totalled}
use Rattle.station.proofs.add_up.Goals as goal

pub float_to_bits-result : goal.float_to_bits-result
float_to_bits-result c = low_is c.requires c.sums-sums.ensures

pub float_to_bits-result-2 : goal.float_to_bits-result-2
float_to_bits-result-2 c = high_is c.requires c.sums-sums.ensures

pub returns : goal.returns
returns c = totalled c.requires c.sums-sums.ensures
