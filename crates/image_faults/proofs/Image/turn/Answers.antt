-- `image_faults::Image::turn` meets its contract. Assumes nothing.
use mathlib.Core.Path.{◌≡◌, sym, ◌∙◌}
use mathlib.Core.Bool.{false}
use Prim.Native.Nat.{◌%◌}
use native.Mathlib.Omega.{arith}
use borrow.Author.Tests.{eqb-true, ltb-true, ltb-false}
use Rattle.model.specs.Coupon.{is_empty}
use Rattle.image_faults.specs.Windows.{bit}
use Rattle.image_faults.proofs.Turns.{turn_empty, turn_passed, turn_other, turn_twice, turn_low, turn_new}
use Rattle.image_faults.proofs.Image.turn.Goals as goal
use Rattle.image_faults.proofs.Image.turn.Goals.{After-home-slot, Else-before, Else-none}

-- what is known on the way: the word is an entry, and its bit is clear
some : (c : Else-none) → is_empty c.args.w ≡ false
some c =
    sym c.is_empty-none.ensures ∙ c.if-none.false

new : (c : Else-before) → bit c.args.marks.now (c.home-slot.result % 524288) ≡ false
new c =
    sym c.marked-before.ensures ∙ c.if-before.false

pub returns-then-self : goal.returns-then-self
returns-then-self c = turn_empty _ _ _ _ _ (sym c.is_empty-none.ensures ∙ c.if-none.true) c.if-self.true _

pub returns-then-none : goal.returns-then-none
returns-then-none c = turn_passed _ _ _ _ _ (sym c.is_empty-none.ensures ∙ c.if-none.true) c.if-self.false

pub returns-then-slot-b : goal.returns-then-slot-b
returns-then-slot-b c =
    turn_other _ _ _ _ _ (some (goal.at.returns-then-slot-b c).Else-none) _ c.home-slot.ensures c.if-slot-b.true

pub returns-then-before : goal.returns-then-before
returns-then-before c =
    turn_twice _ _ _ _ _ (some (goal.at.returns-then-before c).Else-none) _ c.home-slot.ensures c.if-slot-b.false (sym c.marked-before.ensures ∙ c.if-before.true) _

pub returns-then-low : goal.returns-then-low
returns-then-low c =
    let past = goal.at.returns-then-low c in
    turn_low _ _ _ _ _ (some past.Else-none) _ c.home-slot.ensures c.if-slot-b.false (new past.Else-before) (omega (arith, ltb-true, c.if-low.true, c.value.ensures)) _

pub returns : goal.returns
returns c =
    let past = goal.at.returns c in
    turn_new _ _ _ _ _ (some past.Else-none) _ c.home-slot.ensures c.if-slot-b.false (new past.Else-before) (omega (arith, ltb-false, c.if-low.false, c.value.ensures)) _ c.mark.ensures
    (λ t. sym c.get_raw-even.ensures ∙ eqb-true _ _ t)
