-- `shape::scratch_fits` meets its contract. Assumes nothing.
use mathlib.Core.Path.{sym}
use borrow.Author.Tests.{ne_eqb}
use Rattle.model.proofs.calls.Rungs.{scratch_other, scratch_by}
use Rattle.shape.proofs.scratch_fits.Goals as goal

pub returns-then-kind-ne4 : goal.returns-then-kind-ne4
returns-then-kind-ne4 c = rw (ne_eqb _ _ c.if-kind-ne4.true) (sym (scratch_other _ _ _ c.if-kind-ne4.true))

pub returns-else-kind-ne4 : goal.returns-else-kind-ne4
returns-else-kind-ne4 c = sym (scratch_by _ _ _ c.if-kind-ne4.false)
