-- `report::refused` meets its contract: three lines, one behind the other, and perhaps a fourth. Assumes nothing.
use native.Mathlib.Omega.{arith}
use borrow.Author.Rules.{rules}
use Rattle.report.specs.Report.{refused_text}
use Rattle.report.proofs.Lines.{line_ends, line_fits, answer_ends}
use Rattle.report.proofs.refused.Goals as goal

pub put_line-requires : goal.put_line-requires
put_line-requires c = line_fits _ _ _ 2 (search rules) (omega (arith, answer_ends _ c.answered-out.ensures))

pub put_line-requires-2 : goal.put_line-requires-2
put_line-requires-2 c =
    let code = line_ends c.answered-out.result _ _ 2 c.put_line.ensures (search rules) in
    line_fits _ _ _ 19 (search rules) (omega (arith, answer_ends _ c.answered-out.ensures, code))

pub put_place-requires : goal.put_place-requires
put_place-requires c =
    let code = line_ends c.answered-out.result _ _ 2 c.put_line.ensures (search rules) in
    let file = line_ends c.put_line.new.out _ _ 19 c.put_line-2.ensures (search rules) in
    omega (arith, answer_ends _ c.answered-out.ensures, code, file)

pub returns : goal.returns
unfolding refused_text
returns c = rw (c.put_line-2.ensures, c.put_line.ensures, c.answered-out.ensures, c.from.ensures) at c.put_place.ensures
