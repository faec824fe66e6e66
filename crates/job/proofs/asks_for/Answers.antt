-- `job::asks_for` meets its contract: three texts are pushed one behind the other, and compared. Assumes nothing.
use mathlib.Core.Path.{ap, ◌∙◌}
use mathlib.Core.List.{List}
use Prim.Native.Nat.{ℕ}
use native.Mathlib.Omega.{arith}
use lib.ListN.{length}
use Rattle.text.proofs.Decimal.{decimal_few}
use Rattle.text.proofs.Writing.{pushed_long}
use Rattle.text.specs.Text.{decimal, line, stands_at, text}
use Rattle.job.proofs.asks_for.Goals as goal

pub push_decimal-requires : goal.push_decimal-requires
push_decimal-requires c =
    let key = pushed_long c.new-line.result (text "lgk=") c.push.ensures in
    omega (arith, ap length c.new-line.ensures, key, decimal_few c.from.result 1 (omega arith))

pub push-requires-2 : goal.push-requires-2
push-requires-2 c =
    let key = pushed_long c.new-line.result (text "lgk=") c.push.ensures in
    let said = pushed_long c.push.new.self (decimal c.from.result) c.push_decimal.ensures in
    omega (arith, ap length c.new-line.ensures, key, said, decimal_few c.from.result 1 (omega arith))

pub returns : goal.returns
unfolding line
returns c =
    let said = rw (c.push_decimal.ensures, c.push.ensures, c.new-line.ensures, c.from.ensures) at c.push-2.ensures in
    c.stands.ensures ∙ ap (λ (p : List ℕ). stands_at p c.args.job.now) (c.as_slice.ensures.bytes ∙ said)
