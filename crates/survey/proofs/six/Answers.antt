-- `survey::six` meets its contract. Assumes nothing.
use mathlib.Core.Path.{◌∙◌}
use native.Mathlib.Omega.{arith}
use Rattle.survey.proofs.Cells.{tally_is, six_groups, six_zeros, six_values, six_spare}
use Rattle.survey.proofs.six.Goals as goal

pub count_zeros-zeros-requires : goal.count_zeros-zeros-requires
count_zeros-zeros-requires c = six_groups c.requires.0 c.requires.1

pub overflow_sub-result : goal.overflow_sub-result
overflow_sub-result c = omega (arith, (six_groups c.requires.0 c.requires.1).threes)

pub bounds-regs-regs : goal.bounds-regs-regs
bounds-regs-regs c = omega (arith, (six_groups c.requires.0 c.requires.1).threes)

pub returns : goal.returns
returns c =
    let ok = c.requires in
    record {
      values = six_values ok.0 ok.1;
      spare = six_spare ok.0 ok.1;
      tally = c.tally_fits.ensures ∙ tally_is ok.0 (six_zeros ok.0 ok.1 c.count_zeros-zeros.ensures);
      tokens = λ four. omega arith;
    }
