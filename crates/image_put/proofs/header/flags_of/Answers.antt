-- `image_put::header::flags_of` meets its contract. Assumes nothing.
use borrow.Author.Tests.{eq-eqb, ne_eqb}
use Rattle.image_put.proofs.header.flags_of.Goals as goal

pub returns-then-kind-eq4 : goal.returns-then-kind-eq4
returns-then-kind-eq4 c = simp (eq-eqb _ _ c.if-kind-eq4.true)

pub returns-else-kind-eq4 : goal.returns-else-kind-eq4
returns-else-kind-eq4 c = simp (ne_eqb _ _ c.if-kind-eq4.false)
