-- `files::beside` meets its contract: a number of 32 bits has few digits. Assumes nothing.
use mathlib.Core.Path.{ap}
use native.Mathlib.Omega.{arith}
use lib.ListN.{length}
use Rattle.text.proofs.Decimal.{decimal_few}
use Rattle.text.proofs.Writing.{pushed_long}
use Rattle.text.specs.Text.{text}
use Rattle.files.proofs.beside.Goals as goal

pub push-requires : goal.push-requires
push-requires c = omega (arith, ap length c.new-name.ensures)

pub push-requires-2 : goal.push-requires-2
push-requires-2 c = omega (arith, ap length c.new-name.ensures, pushed_long c.new-name.result c.args.path.now c.push.ensures)

pub push_decimal-requires : goal.push_decimal-requires
push_decimal-requires c =
    let path = pushed_long c.new-name.result c.args.path.now c.push.ensures in
    let dot = pushed_long c.push.new.self (text ".") c.push-2.ensures in
    omega (arith, ap length c.new-name.ensures, path, dot, decimal_few c.from.result 19 (omega arith))

pub returns : goal.returns
returns c = rw (c.push-2.ensures, c.push.ensures, c.new-name.ensures, c.from.ensures) at c.push_decimal.ensures
