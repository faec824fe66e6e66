-- `merge_job::check_large` meets its contract. Assumes nothing.
use mathlib.Core.Path.{sym}
use Rattle.model.proofs.calls.Refusals.{refusal_some, handed_on}
use Rattle.merge_job.proofs.Filed.{large_form, large_off, large_right}
use Rattle.merge_job.proofs.check_large.Goals as goal

pub returns-in_err-form : goal.returns-in_err-form
returns-in_err-form c = rw (handed_on c.from_residual.result c.from_residual.ensures.1) (large_form _ _ c.in_err-form.ensures (refusal_some _))

pub returns-then-lg_k-gt-LARGEST : goal.returns-then-lg_k-gt-LARGEST
returns-then-lg_k-gt-LARGEST c = large_off _ _ (sym c.in_ok-form.ensures) c.if-lg_k-gt-LARGEST.true

pub returns : goal.returns
returns c = large_right _ _ (sym c.in_ok-form.ensures) c.if-lg_k-gt-LARGEST.false
