-- `blocks::raise_exceptions` meets its contract: the area's front is the table. Assumes nothing.
use mathlib.Core.Path.{sym}
use lib.Seq.{length-take-le}
use Rattle.blocks.proofs.Levels.{words_four, words_none}
use Rattle.blocks.proofs.raise_exceptions.Goals as goal

pub returns-then-s-ne4 : goal.returns-then-s-ne4
returns-then-s-ne4 c = words_none _ _ _ c.if-s-ne4.true

pub table_len-size-requires : goal.table_len-size-requires
table_len-size-requires c = c.requires.tabulated c.if-s-ne4.false

pub slice_bounds-raise_words-end : goal.slice_bounds-raise_words-end
slice_bounds-raise_words-end c = sym (length-take-le _ _ (rw c.table_len-size.ensures (c.requires.table c.if-s-ne4.false)))

pub returns : goal.returns
returns c =
    let a = c.args in
    words_four a.s a.aux.now a.target.now c.if-s-ne4.false c.table_len-size.ensures c.raise_words.ensures
