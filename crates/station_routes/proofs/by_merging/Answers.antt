-- `station_routes::by_merging` meets its contract: what its calls leave stands in one history after the other. Assumes nothing.
use mathlib.Core.List.{◌++◌}
use lib.Dec.{lit<}
use Rattle.station_routes.specs.Routes.{In}
use Rattle.station_routes.proofs.Given.{came, taken}
use Rattle.station_routes.proofs.Meeting.{in_order}
use Rattle.station_routes.proofs.Rooms.{room_four, room_six, room_eight}
use Rattle.station_routes.proofs.by_merging.Goals as goal
use Rattle.station_routes.proofs.by_merging.Goals.{After-unwrap-four, After-unwrap-one, After-unwrap-two}

-- what has reached each sketch
four : (c : After-unwrap-four) → In 4 5 c.args.a.now c.unwrap-four.result
four c = taken _ c.unwrap-four.ensures (c.sent.ensures _ c.filled.ensures)

one : (c : After-unwrap-one) → In 8 4 c.args.a.now c.unwrap-one.result
one c = taken _ c.unwrap-one.ensures (c.merged.ensures _ _ _ c.filled-empty.ensures (taken _ c.unwrap-four.ensures (c.sent.ensures _ c.filled.ensures)))

two : (c : After-unwrap-two) → In 8 4 c.args.a.now c.unwrap-one.result → In 8 4 (c.args.a.now ++ c.args.b.now) c.unwrap-two.result
two c h = taken _ c.unwrap-two.ensures (c.merged-2.ensures _ _ _ h c.filled-six.ensures)

pub filled-empty-requires : goal.filled-empty-requires
filled-empty-requires c = (lit< tt, room_eight)

pub filled-requires : goal.filled-requires
filled-requires c = (lit< tt, room_four)

pub unwrap-four-requires : goal.unwrap-four-requires
unwrap-four-requires c = came _ _ (c.sent.ensures _ c.filled.ensures)

pub unwrap-one-requires : goal.unwrap-one-requires
unwrap-one-requires c = came _ _ (c.merged.ensures _ _ _ c.filled-empty.ensures (four (goal.at.unwrap-one-requires c).After-unwrap-four))

pub filled-six-requires : goal.filled-six-requires
filled-six-requires c = (lit< tt, room_six)

pub unwrap-two-requires : goal.unwrap-two-requires
unwrap-two-requires c = came _ _ (c.merged-2.ensures _ _ _ (one (goal.at.unwrap-two-requires c).After-unwrap-one) c.filled-six.ensures)

pub unwrap-requires : goal.unwrap-requires
unwrap-requires c =
    let past = goal.at.unwrap-requires c in
    rw (c.image_of.ensures _ (two past.After-unwrap-two (one past.After-unwrap-one)))

pub returns : goal.returns
returns c =
    let past = goal.at.returns c in
    let both = two past.After-unwrap-two (one past.After-unwrap-one) in
    let image = c.image_of.ensures _ both in
    in_order both cc
