-- `sketch_feed::check` meets its contract. Assumes nothing.
use mathlib.Core.Path.{◌∙◌, ap}
use mathlib.Core.Bool.{Bool}
use Rattle.model.specs.Check.{check_no}
use Rattle.sketch_feed.proofs.check.Goals as goal

pub returns : goal.returns
returns c = let a = c.args in c.check.ensures ∙ ap (λ (lent : Bool). check_no lent a.s a.regs.now a.aux.now) c.scratch_fits-fits.ensures
