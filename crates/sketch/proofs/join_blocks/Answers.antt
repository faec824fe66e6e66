-- `sketch::join_blocks` meets its contract: the law of floors and words. Assumes nothing.
use Rattle.sketch.proofs.Merging.{joins_floors, joins_words, joins_all}
use Rattle.sketch.proofs.join_blocks.Goals as goal

pub pour-requires : goal.pour-requires
pour-requires c = joins_floors c.args.held _ c.requires

pub raise_exceptions-requires : goal.raise_exceptions-requires
raise_exceptions-requires c = joins_words c.args.held _ c.requires c.pour.auto.target

pub returns : goal.returns
returns c =
    let poured = c.pour in
    joins_all c.args.held _ c.requires _ poured.ensures poured.auto.target c.raise_exceptions.ensures
