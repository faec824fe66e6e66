-- `image_faults::Image::pass` meets its contract: `Passing` holds before each word. Assumes nothing.
use mathlib.Core.Path.{◌≡◌, refl, sym, ◌∙◌}
use mathlib.Core.Bool.{true}
use native.Mathlib.Omega.{arith}
use borrow.Author.Rules.{rules}
use Rattle.model.proofs.table.FirstLaws.{true_not_false}
use Rattle.image_faults.proofs.Passing.{pass_none, pass_on, pass_stops, pass_ends}
use Rattle.image_faults.proofs.Image.pass.Goals as goal
use Rattle.image_faults.proofs.Image.pass.Goals.{then-even, else-even}

pub loop-i-init : goal.loop-i-init
loop-i-init c = (refl, pass_none c.requires.1)

pub returns-in-Err : goal.returns-in-Err
returns-in-Err c = pass_stops c.loop-i.invariant.1 c.loop-i-test.true c.word_at-w.ensures c.in-Err.ensures

pub loop-i-preserved-in-Ok-None : goal.loop-i-preserved-in-Ok-None
loop-i-preserved-in-Ok-None c =
    let t = rw c.in-Ok-None.field-0-is at c.in-Ok-None.ensures in
    (search rules, pass_on c.loop-i.invariant.1 c.loop-i-test.true c.word_at-w.ensures t (λ e. (e, refl)) (omega arith))

-- even so far, and here
both : (c : goal.Joined-even) → c.if-even.even ≡ true → (c.loop-i.even ≡ true) × (c.in-Ok-Some.here ≡ true)
both c e =
    elim c.if-even.branch [
      | then-even w ↦ (w.if-even.true, sym w.even-is ∙ e)
      | else-even w ↦ absurd (true_not_false e (w.even-is ∙ w.if-even.false))
    ]

pub loop-i-preserved : goal.loop-i-preserved
loop-i-preserved c =
    let t = rw c.in-Ok-Some.field-0-is at c.in-Ok-Some.ensures in
    (search rules, pass_on c.loop-i.invariant.1 c.loop-i-test.true c.word_at-w.ensures t (both c) refl)

pub returns : goal.returns
returns c = pass_ends c.loop-i.invariant.1 (omega (arith, c.loop-i-test.false, c.loop-i.auto.i-end))
