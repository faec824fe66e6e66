-- `station::refuse` meets its contract: that of `feed`, computed at a record of kind 5. Assumes nothing.
use Rattle.station.proofs.Toured.{stops, refusals}
use Rattle.station.proofs.refuse.Goals as goal

pub unwrap_err-stopped-requires : goal.unwrap_err-stopped-requires
unwrap_err-stopped-requires c = stops c.requires _ _ _ c.feed.ensures

pub returns : goal.returns
returns c = refusals c.requires _ _ _ c.feed.ensures c.unwrap_err-stopped.ensures c.number.ensures
