-- `sketch::check_eight` meets its contract: the kind refuses, or the checks decide. Assumes nothing.
use Rattle.model.proofs.calls.Rungs.{eight_kind, eight_check}
use Rattle.sketch.proofs.check_eight.Goals as goal

pub returns-then-s-ne8 : goal.returns-then-s-ne8
returns-then-s-ne8 c = eight_kind _ _ c.if-s-ne8.true

pub returns : goal.returns
returns c = eight_check _ _ _ c.if-s-ne8.false c.check.ensures
