-- `report::name_of` meets its contract: what no arm names has none. Assumes nothing.
use mathlib.Core.Path.{sym}
use native.Mathlib.Omega.{arith}
use Rattle.report.proofs.Names.{no_name}
use Rattle.report.proofs.name_of.Goals as goal

pub returns-in_default : goal.returns-in_default
returns-in_default c = sym (no_name _ (λ h. omega arith))
