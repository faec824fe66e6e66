-- `station_routes::same_by_two_routes` meets its contract: both routes reach what demand 3 says is one image. Assumes nothing.
use Rattle.station_routes.proofs.Meeting.{routes_meet}
use Rattle.station_routes.proofs.same_by_two_routes.Goals as goal

pub returns : goal.returns
returns c = c.same.ensures.1 (routes_meet c.by_merging-merged.ensures c.by_feeding-fed.ensures)
