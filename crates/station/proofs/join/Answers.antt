-- `station::join` meets its contract: that of `merge`, computed at the two sketches. Assumes nothing.
use Rattle.station.proofs.Toured.{merges, joins}
use Rattle.station.proofs.join.Goals as goal

pub expected-sketch-requires : goal.expected-sketch-requires
expected-sketch-requires c = merges c.requires.0 c.requires.1 _ _ c.merge.ensures

pub returns : goal.returns
returns c = joins c.requires.0 c.requires.1 _ _ c.merge.ensures c.expected-sketch.ensures
