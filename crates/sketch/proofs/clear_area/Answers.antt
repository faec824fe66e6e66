-- `sketch::clear_area` meets its contract: an empty table leaves zeros. Assumes nothing.
use mathlib.Core.Path.{◌≡◌, sym, ◌∙◌}
use lib.ListN.{length, replicate}
use borrow.Author.Tests.{ne_eqb}
use Rattle.std.proofs.Common.{rules}
use Rattle.model.specs.Sketch.{area_of}
use Rattle.model.proofs.calls.Starting.{area_zeros}
use Rattle.sketch.proofs.clear_area.Goals as goal

pub returns-then-kind-eq4 : goal.returns-then-kind-eq4
returns-then-kind-eq4 c = let cleared : c.fill.new.self ≡ replicate (length c.args.aux.now) 0 = search rules in cleared ∙ sym (area_zeros _ _ c.if-kind-eq4.true)

pub returns-else-kind-eq4 : goal.returns-else-kind-eq4
unfolding area_of
returns-else-kind-eq4 c = simp (ne_eqb _ _ c.if-kind-eq4.false)
