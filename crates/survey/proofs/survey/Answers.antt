-- `survey::survey` meets its contract. Assumes nothing.
use mathlib.Core.Path.{◌∙◌}
use native.Mathlib.Omega.{arith}
use Rattle.survey.proofs.Cells.{few, low, tally_is, whole_cells, whole_count, whole_values, whole_spare}
use Rattle.survey.proofs.survey.Goals as goal

pub largest-largest-requires : goal.largest-largest-requires
largest-largest-requires c = whole_cells c.requires c.if-s-eq6.false

pub count-zeros-requires : goal.count-zeros-requires
count-zeros-requires c = whole_cells c.requires c.if-s-eq6.false

pub overflow_sub-result : goal.overflow_sub-result
overflow_sub-result c = omega (arith, low c.requires)

pub tokens-requires : goal.tokens-requires
tokens-requires c = few c.requires

pub returns : goal.returns
returns c =
    let ok = c.requires in
    let other = c.if-s-eq6.false in
    record {
      values = whole_values ok other c.largest-largest.ensures;
      spare = whole_spare ok other;
      tally = c.tally_fits.ensures ∙ tally_is ok (whole_count ok other 0 c.count-zeros.ensures);
      tokens = λ four. whole_count ok other 15 (rw four (c.tokens.ensures four));
    }
