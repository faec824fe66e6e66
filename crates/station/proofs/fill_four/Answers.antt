-- `station::fill_four` meets its contract: the contracts of `start` and `feed`, chained and computed. Assumes nothing.
use mathlib.Core.Path.{refl}
use lib.ListN.{replicate}
use Rattle.station.specs.Tour.{zero_at_fifteen}
use Rattle.station.proofs.Booked.{booked}
use Rattle.station.proofs.Toured.{four_from, starts, feeds, filled}
use Rattle.station.proofs.fill_four.Goals as goal

pub expected-empty-requires : goal.expected-empty-requires
expected-empty-requires c = starts _ _ _ c.start.ensures booked.starts_4 refl

pub expected-fed-requires : goal.expected-fed-requires
expected-fed-requires c =
    feeds _ _ _ c.start.ensures c.expected-empty.ensures (replicate 8 5) zero_at_fifteen _ _ _ c.feed.ensures booked.feeds_4 refl

pub returns : goal.returns
returns c =
    filled _ _ _ c.start.ensures c.expected-empty.ensures (replicate 8 5) zero_at_fifteen _ _ _ c.feed.ensures booked.feeds_4 four_from c.expected-fed.ensures
