-- `merge_job::join` meets its contract. Assumes nothing.
use mathlib.Core.Path.{refl}
use Rattle.model.proofs.calls.Refusals.{refusal_some, handed_on}
use Rattle.merge_job.proofs.Joining.{join_refused, join_merged}
use Rattle.merge_job.proofs.join.Goals as goal

pub returns-in_err-source : goal.returns-in_err-source
returns-in_err-source c =
    let a = c.args in
    rw (handed_on c.from_residual.result c.from_residual.ensures.1) (join_refused a.target a.tregs.now a.image a.regs.now a.aux.now a.scratch.now c.requires _ _ _ _ _ c.in_err-source.ensures (refusal_some _))

pub returns-in_err-merged : goal.returns-in_err-merged
returns-in_err-merged c =
    let a = c.args in
    rw (handed_on c.from_residual-in_err-merged.result c.from_residual-in_err-merged.ensures.1)
    (join_merged a.target a.tregs.now a.image a.regs.now a.aux.now a.scratch.now c.requires _ _ _ _ _ c.in_ok-source.ensures c.in_err-merged.ensures refl)

pub returns : goal.returns
returns c =
    let a = c.args in
    join_merged a.target a.tregs.now a.image a.regs.now a.aux.now a.scratch.now c.requires _ _ _ _ _ c.in_ok-source.ensures c.in_ok-merged.ensures refl
