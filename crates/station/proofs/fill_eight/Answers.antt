-- `station::fill_eight` meets its contract: the contracts of `start` and `feed_by_lending`, chained and computed. Assumes nothing.
use mathlib.Core.Path.{refl}
use lib.ListN.{replicate}
use Rattle.station.specs.Tour.{three_at_five}
use Rattle.station.proofs.Booked.{booked}
use Rattle.station.proofs.Toured.{eight_from, starts, feeds, filled}
use Rattle.station.proofs.fill_eight.Goals as goal

pub expected-empty-requires : goal.expected-empty-requires
expected-empty-requires c = starts _ _ _ c.start.ensures booked.starts_8 refl

pub expected-fed-requires : goal.expected-fed-requires
expected-fed-requires c =
    feeds _ _ _ c.start.ensures c.expected-empty.ensures (replicate 1 5) three_at_five _ _ _ c.feed_by_lending.ensures booked.feeds_8 refl

pub returns : goal.returns
returns c =
    filled _ _ _ c.start.ensures c.expected-empty.ensures (replicate 1 5) three_at_five _ _ _ c.feed_by_lending.ensures booked.feeds_8 eight_from c.expected-fed.ensures
