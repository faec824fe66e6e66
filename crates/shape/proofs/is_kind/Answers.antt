-- `shape::is_kind` meets its contract. Assumes nothing.
use mathlib.Core.Path.{sym}
use borrow.Author.Rules.{rules}
use Rattle.model.proofs.packing.Lengths.{kind_tells}
use Rattle.model.proofs.order.Tells.{tells_one, tells_true, tells_no}
use Rattle.shape.proofs.is_kind.Goals as goal

pub returns-in-4 : goal.returns-in-4
returns-in-4 c = sym (tells_true _ (kind_tells _) c.in-4.is)

pub returns-in_default : goal.returns-in_default
returns-in_default c = tells_one _ _ (tells_no (search rules)) (kind_tells _)
