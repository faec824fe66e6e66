-- `sketch::unpack_good` meets its contract: the law of floors and words, over nothing. Assumes nothing.
use Rattle.sketch.proofs.Merging.{whole_asks, whole_words, whole_all}
use Rattle.sketch.proofs.unpack_good.Goals as goal

pub floors-requires : goal.floors-requires
floors-requires c = whole_asks c.args.held c.requires

pub raise_exceptions-requires : goal.raise_exceptions-requires
raise_exceptions-requires c = whole_words c.args.held c.requires c.floors.auto.out

pub returns : goal.returns
returns c =
    let floored = c.floors in
    whole_all c.args.held c.requires floored.ensures floored.auto.out c.raise_exceptions.ensures
