-- `survey_six::count_part` meets its contract. Assumes nothing.
use mathlib.Core.Path.{◌≡◌, ap, subst, ◌∙◌}
use Prim.Native.Nat.{ℕ, ◌+◌, ◌-◌, ◌%◌, ◌<◌}
use native.Mathlib.Omega.{arith}
use lib.ListN.{length, get_or, take, drop}
use lib.Seq.{get_or-take, get_or-drop}
use Rattle.model.specs.Packed.{Bytes}
use Rattle.survey_six.specs.Six.{Both}
use Rattle.survey_six.proofs.Thrice.{again, again_at}
use Rattle.survey_six.proofs.Zeros.{begins_at, left_all, left_none, left_turn, both_most, begins_most}
use Rattle.survey_six.proofs.count_part.Goals as goal

-- what the table has at i
table : (i : ℕ) → i < 48 → get_or (again 64 16 4 16) i 0 ≡ begins_at (i % 3)
table i l = again_at 64 16 4 16 i l

pub zeros_at-n-requires : goal.zeros_at-n-requires
unfolding again
zeros_at-n-requires c =
    let i = c.loop-i.i in
    begins_most _ (i % 3) (omega arith) (table i (omega arith))

pub loop-i-preserved : goal.loop-i-preserved
unfolding again
loop-i-preserved c =
    let part = c.args.part.now in
    let i = c.loop-i.i in
    let bytes : Bytes part = λ i. (c.type_inv.part i).fits in
    let inside : i + 1 < length part = omega arith in
    let after : get_or (take (length part - 1) (drop 1 part)) i 0 ≡ get_or part (i + 1) 0 = get_or-take (length part - 1) (drop 1 part) i 0 (omega arith) ∙ get_or-drop 1 part i 0 ∙ ap (λ (j : ℕ). get_or part j 0) (omega arith) in
    let both = subst (λ (next : ℕ). Both (get_or part i 0) next (get_or (again 64 16 4 16) i 0) c.zeros_at-n.result) after c.zeros_at-n.ensures in
    let turn = left_turn part c.requires.groups bytes i inside _ _ (table i (omega arith)) both in
    (omega (arith, both_most both), omega (arith, c.loop-i.invariant.1, turn))

pub returns : goal.returns
returns c =
    let part = c.args.part.now in
    omega (arith, c.loop-i.invariant.1, left_none part c.requires.groups c.loop-i.i (omega (arith, c.loop-i-test.false)), left_all part)
