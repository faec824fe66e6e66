-- `report::put_place` meets its contract: a line for 21 to 25, nothing for another number. Assumes nothing.
use mathlib.Core.Path.{sym}
use mathlib.Core.List.{append-nil}
use native.Mathlib.Omega.{arith}
use borrow.Author.Rules.{rules}
use Rattle.report.proofs.Lines.{line_fits, place_below, place_above, place_told}
use Rattle.report.proofs.put_place.Goals as goal

pub put_line-requires : goal.put_line-requires
put_line-requires c = rw c.from.ensures (line_fits _ _ _ 9 (search rules) (omega arith))

pub returns-in-21-to-25 : goal.returns-in-21-to-25
returns-in-21-to-25 c =
    rw (place_told c.args.code c.args.place (omega arith) (omega arith), ← c.from.ensures) c.put_line.ensures

pub returns-then-code-lt21 : goal.returns-then-code-lt21
returns-then-code-lt21 c = rw (place_below c.args.code c.args.place (omega arith)) (sym (append-nil _))

pub returns-else-code-lt26 : goal.returns-else-code-lt26
returns-else-code-lt26 c = rw (place_above c.args.code c.args.place (omega arith)) (sym (append-nil _))
