-- `report::merged` meets its contract: seven lines, one behind the other, and each number is the registers'. Assumes nothing.
use mathlib.Core.Path.{◌≡◌, ◌∙◌}
use native.Mathlib.Omega.{arith}
use borrow.Author.Rules.{rules}
use Rattle.model.specs.Registers.{count_of}
use Rattle.model.specs.Sums.{scaled}
use Rattle.report.specs.Report.{most, merged_text}
use Rattle.report.proofs.Lines.{line_ends, line_fits, answer_ends}
use Rattle.report.proofs.merged.Goals as goal

pub put_line-requires : goal.put_line-requires
put_line-requires c =
    line_fits _ _ _ 19 (search rules) (omega (arith, answer_ends _ c.answered-out.ensures))

pub put_line-requires-2 : goal.put_line-requires-2
put_line-requires-2 c =
    let files = line_ends c.answered-out.result _ _ 19 c.put_line.ensures (search rules) in
    line_fits _ _ _ 2 (search rules) (omega (arith, answer_ends _ c.answered-out.ensures, files))

pub put_line-requires-3 : goal.put_line-requires-3
put_line-requires-3 c =
    let files = line_ends c.answered-out.result _ _ 19 c.put_line.ensures (search rules) in
    let lgk = line_ends c.put_line.new.out _ _ 2 c.put_line-2.ensures (search rules) in
    line_fits _ _ _ 19 (search rules) (omega (arith, answer_ends _ c.answered-out.ensures, files, lgk))

pub put_line-requires-4 : goal.put_line-requires-4
put_line-requires-4 c =
    let files = line_ends c.answered-out.result _ _ 19 c.put_line.ensures (search rules) in
    let lgk = line_ends c.put_line.new.out _ _ 2 c.put_line-2.ensures (search rules) in
    let zeros = line_ends c.put_line-2.new.out _ _ 19 c.put_line-3.ensures (search rules) in
    line_fits _ _ _ 2 (search rules) (omega (arith, answer_ends _ c.answered-out.ensures, files, lgk, zeros))

pub put_line-requires-5 : goal.put_line-requires-5
put_line-requires-5 c =
    let files = line_ends c.answered-out.result _ _ 19 c.put_line.ensures (search rules) in
    let lgk = line_ends c.put_line.new.out _ _ 2 c.put_line-2.ensures (search rules) in
    let zeros = line_ends c.put_line-2.new.out _ _ 19 c.put_line-3.ensures (search rules) in
    let max = line_ends c.put_line-3.new.out _ _ 2 c.put_line-4.ensures (search rules) in
    line_fits _ _ _ 19 (search rules) (omega (arith, answer_ends _ c.answered-out.ensures, files, lgk, zeros, max))

pub put_line-requires-6 : goal.put_line-requires-6
put_line-requires-6 c =
    let files = line_ends c.answered-out.result _ _ 19 c.put_line.ensures (search rules) in
    let lgk = line_ends c.put_line.new.out _ _ 2 c.put_line-2.ensures (search rules) in
    let zeros = line_ends c.put_line-2.new.out _ _ 19 c.put_line-3.ensures (search rules) in
    let max = line_ends c.put_line-3.new.out _ _ 2 c.put_line-4.ensures (search rules) in
    let low = line_ends c.put_line-4.new.out _ _ 19 c.put_line-5.ensures (search rules) in
    line_fits _ _ _ 19 (omega (arith, c.scaled_of-high.type_inv)) (omega (arith, answer_ends _ c.answered-out.ensures, files, lgk, zeros, max, low))

pub returns : goal.returns
unfolding merged_text
returns c =
    let counted = c.counts-counts.ensures in
    let R = c.args.regs.now in
    let zeros-is : _ ≡ count_of 0 R = c.from-zeros.ensures ∙ counted.each 0 (omega arith) in
    let top_is : _ ≡ most R = c.from-top.ensures ∙ c.most_of.ensures in
    let low_is : _ ≡ scaled 0 R = c.scaled_of-low.ensures R counted in
    let high_is : _ ≡ scaled 32 R = c.scaled_of-high.ensures R counted in
    rw (← zeros-is, ← top_is, ← low_is, ← high_is, ← c.from.ensures)
    (rw (c.put_line-5.ensures, c.put_line-4.ensures, c.put_line-3.ensures, c.put_line-2.ensures, c.put_line.ensures, c.answered-out.ensures) at c.put_line-6.ensures)
