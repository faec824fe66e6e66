-- `station_routes::merged` meets its contract: the two histories go side by side to the merge, which is not refused. Assumes nothing.
use mathlib.Core.Path.{ap, ◌∙◌}
use native.Mathlib.Omega.{arith}
use Rattle.model.specs.Calls.{Out}
use Rattle.station_routes.proofs.Given.{kept_some}
use Rattle.station_routes.proofs.Histories.{merge_goes, stands_merge}
use Rattle.station_routes.proofs.merged.Goals as goal

pub returns-in_err-target : goal.returns-in_err-target
returns-in_err-target g c = λ kind got more h j.
    absurd (kept_some _ _ _ _ c.in_err-target.was (ap (λ (o : Out). o.no) c.merge.ensures ∙ merge_goes c.merge.ensures h j (omega arith)))

pub returns : goal.returns
returns g c = λ kind got more h j. stands_merge (rw c.in_ok-target.was at c.merge.ensures) h j (omega arith)
