-- `report::put_line` meets its contract: three pushes, one behind the other. Assumes nothing.
use mathlib.Core.List.{◌++◌}
use native.Mathlib.Omega.{arith}
use Rattle.text.proofs.Writing.{pushed_next, pushed_long}
use Rattle.text.specs.Text.{decimal, line, text}
use Rattle.report.proofs.Lines.{line_long}
use Rattle.report.proofs.put_line.Goals as goal

pub push-requires : goal.push-requires
push-requires c = omega (arith, line_long c.args.key.now (decimal c.args.n))

pub push_decimal-requires : goal.push_decimal-requires
push_decimal-requires c = omega (arith, pushed_long c.args.out.now c.args.key.now c.push.ensures, line_long c.args.key.now (decimal c.args.n))

pub push-requires-2 : goal.push-requires-2
push-requires-2 c =
    let key = pushed_long c.args.out.now c.args.key.now c.push.ensures in
    omega (arith, key, pushed_long c.push.new.self (decimal c.args.n) c.push_decimal.ensures, line_long c.args.key.now (decimal c.args.n))

pub returns : goal.returns
unfolding line
returns c =
    let old = c.args.out.now in
    let key = c.args.key.now in
    let value = decimal c.args.n in
    pushed_next old (key ++ value) (text "\n") (pushed_next old key value c.push.ensures c.push_decimal.ensures) c.push-2.ensures
