-- `sketch_sums::sums` meets its contract: a refusal gives +0 twice, and else the counts decide. Assumes nothing.
use mathlib.Core.Path.{sym, ◌∙◌}
use lib.Ieee.{of_bits}
use Rattle.model.proofs.calls.Refusals.{refusal_some}
use Rattle.model.proofs.calls.Has.{checked_good}
use Rattle.block_counts.proofs.Turns.{good_few}
use Rattle.sketch_sums.proofs.Outcomes.{sums_no, sums_ok}
use Rattle.sketch_sums.proofs.sums.Goals as goal

pub returns-in-Err : goal.returns-in-Err
unfolding of_bits
returns-in-Err c = sums_no _ _ _ (c.number.ensures ∙ c.in-Err.ensures.answer) (λ e. refusal_some _ (sym c.number.ensures ∙ e))

pub from_counts-requires : goal.from_counts-requires
from_counts-requires c = good_few _ _ _ (checked_good c.in-Ok.held) c.counts.ensures

pub returns-in-Ok : goal.returns-in-Ok
returns-in-Ok c =
    let is = c.in-Ok.ensures.ok in
    sums_ok _ _ _ (sym c.in-Ok.ensures.answer) (rw (is.sketch_is, is.regs_are, is.aux_are) at (c.from_counts.ensures _ c.counts.ensures))
