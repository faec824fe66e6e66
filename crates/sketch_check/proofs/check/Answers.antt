-- `sketch_check::check` meets its contract: one law of the ladder for each return. Assumes nothing.
use mathlib.Core.Path.{sym, ap, ◌∙◌}
use mathlib.Core.Bool.{true, false}
use Rattle.model.specs.Answers.{number_of}
use Rattle.model.proofs.calls.Refusals.{refusal_some, handed_on}
use Rattle.model.proofs.calls.Ladder.{shape_says}
use Rattle.model.proofs.calls.Rungs.{check_shape, check_lent, check_good}
use Rattle.sketch_check.proofs.check.Goals as goal

pub returns-in_err-check_shape : goal.returns-in_err-check_shape
returns-in_err-check_shape c = ap number_of (handed_on _ c.from_residual.ensures.1) ∙ check_shape _ _ _ _ _ c.in_err-check_shape.ensures (refusal_some _)

pub returns-then-not-lent : goal.returns-then-not-lent
returns-then-not-lent c = check_lent _ _ _ _ (sym c.in_ok-check_shape.ensures) c.if-not-lent.true

pub is_good-requires : goal.is_good-requires
is_good-requires c = (shape_says _ _ _).0 (sym c.in_ok-check_shape.ensures)

pub returns-then-not-is_good : goal.returns-then-not-is_good
returns-then-not-is_good c = check_good _ _ _ _ (sym c.in_ok-check_shape.ensures) false (sym c.if-not-is_good.true ∙ c.is_good.ensures) c.if-not-lent.false

pub returns : goal.returns
returns c = check_good _ _ _ _ (sym c.in_ok-check_shape.ensures) true (sym c.if-not-is_good.false ∙ c.is_good.ensures) c.if-not-lent.false
