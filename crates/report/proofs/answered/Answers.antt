-- `report::answered` meets its contract: three pushes, one behind the other. Assumes nothing.
use mathlib.Core.Path.{ap}
use native.Mathlib.Omega.{arith}
use lib.ListN.{length}
use Rattle.text.proofs.Writing.{pushed_long}
use Rattle.text.specs.Text.{line, text}
use Rattle.report.proofs.Names.{name_few}
use Rattle.report.proofs.answered.Goals as goal

pub push-requires-2 : goal.push-requires-2
push-requires-2 c =
    omega (arith, ap length c.new-out.ensures, pushed_long c.new-out.result (text "answer=") c.push.ensures, ap length c.name_of.ensures, name_few c.args.code)

pub push-requires-3 : goal.push-requires-3
push-requires-3 c =
    let key = pushed_long c.new-out.result (text "answer=") c.push.ensures in
    omega (arith, ap length c.new-out.ensures, key, pushed_long c.push.new.self c.name_of.result.now c.push-2.ensures, ap length c.name_of.ensures, name_few c.args.code)

pub returns : goal.returns
unfolding line
returns c = rw (c.push-2.ensures, c.push.ensures, c.new-out.ensures, c.name_of.ensures) at c.push-3.ensures
