-- `station_routes::filled` meets its contract: with so much room start and feed are not refused, and what they leave stands. Assumes nothing.
use Rattle.station_routes.proofs.Filling.{starts, goes, stands}
use Rattle.station_routes.proofs.filled.Goals as goal

pub unwrap-empty-requires : goal.unwrap-empty-requires
unwrap-empty-requires g c = starts c.requires _ _ _ c.start.ensures

pub unwrap-fed-requires : goal.unwrap-fed-requires
unwrap-fed-requires g c = goes c.requires _ _ _ c.start.ensures c.start.auto.aux c.unwrap-empty.ensures _ _ _ _ c.feed.ensures

pub returns : goal.returns
returns g c = stands c.requires _ _ _ c.start.ensures c.start.auto.aux c.unwrap-empty.ensures _ _ _ _ c.feed.ensures c.unwrap-fed.ensures
