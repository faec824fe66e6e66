-- `merge_jobs::name_of` meets its contract. Assumes nothing.
use mathlib.Core.Path.{ap}
use native.Mathlib.Omega.{arith}
use lib.ListN.{length}
use Rattle.text.proofs.Decimal.{decimal_few}
use Rattle.text.proofs.Writing.{pushed_long}
use Rattle.text.specs.Text.{decimal}
use Rattle.merge_jobs.proofs.name_of.Goals as goal

pub push_decimal-requires : goal.push_decimal-requires
push_decimal-requires c = omega (arith, ap length c.new-name.ensures, decimal_few c.args.i 19 (omega arith))

pub push-requires : goal.push-requires
push-requires c =
    let said = pushed_long c.new-name.result (decimal c.args.i) c.push_decimal.ensures in
    omega (arith, ap length c.new-name.ensures, said, decimal_few c.args.i 19 (omega arith))

pub returns : goal.returns
returns c = rw (c.push_decimal.ensures, c.new-name.ensures) at c.push.ensures
