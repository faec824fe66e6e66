-- `station_routes::by_feeding` meets its contract: what its calls leave stands in one history after the other. Assumes nothing.
use lib.Dec.{lit<}
use Rattle.station_routes.proofs.Given.{came, taken}
use Rattle.station_routes.proofs.Meeting.{in_turn}
use Rattle.station_routes.proofs.Rooms.{room_eight}
use Rattle.station_routes.proofs.by_feeding.Goals as goal

pub filled-one-requires : goal.filled-one-requires
filled-one-requires c = (lit< tt, room_eight)

pub unwrap-two-requires : goal.unwrap-two-requires
unwrap-two-requires c = came _ _ (c.with_coupons.ensures _ c.filled-one.ensures)

pub unwrap-requires : goal.unwrap-requires
unwrap-requires c =
    let two = taken _ c.unwrap-two.ensures (c.with_coupons.ensures _ c.filled-one.ensures) in
    rw (c.image_of.ensures _ two)

pub returns : goal.returns
returns c =
    let two = taken _ c.unwrap-two.ensures (c.with_coupons.ensures _ c.filled-one.ensures) in
    let image = c.image_of.ensures _ two in
    in_turn two cc
