-- `aux_table::in_order` meets its contract: each word passed is where its search ends. Assumes nothing.
use mathlib.Core.Path.{refl, ap, ◌∙◌}
use native.Mathlib.Omega.{arith}
use Rattle.model.specs.Table.{Reached, place}
use Rattle.model.proofs.table.FirstLaws.{true_not_false}
use Rattle.aux_table.proofs.in_order.Goals as goal

pub returns-then-probe-at : goal.returns-then-probe-at
unfolding Reached
returns-then-probe-at c =
    let t = c.args.table.now in
    ((λ e. absurd (true_not_false e refl)), λ e good. c.if-probe-at.true (c.probe.ensures ∙ ap (place t) c.slot.ensures ∙ good c.loop-at.at c.loop-at-test.true c.if-w-ne0.true))

pub returns : goal.returns
unfolding Reached
returns c = ((λ e p k. c.loop-at.invariant p (omega arith)), λ e. absurd (true_not_false refl e))
