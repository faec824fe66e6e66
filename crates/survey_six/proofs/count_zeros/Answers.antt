-- `survey_six::count_zeros` meets its contract. Assumes nothing.
use mathlib.Core.List.{List}
use Prim.Native.Nat.{ℕ, ◌^◌, ◌≤◌}
use native.Mathlib.Omega.{arith}
use lib.ListN.{length, length-drop}
use Rattle.model.specs.Registers.{count_of}
use Rattle.model.proofs.packing.ByteLists.{from_on, bytes_drop}
use Rattle.survey_six.specs.declared.TheConstants.{PART}
use Rattle.survey_six.proofs.Zeros.{cells, left_all, left_few, count_parts}
use Rattle.survey_six.proofs.count_zeros.Goals as goal

count_few : (regs : List ℕ) → length regs ≤ 2 ^ 21 → count_of 0 (cells regs) ≤ 2 ^ 22
count_few regs l = omega (arith, left_all regs, left_few regs)

pub overflow_add-n : goal.overflow_add-n
overflow_add-n c =
    let inv = c.loop-others.invariant in
    let parts = count_parts c.loop-others.others.now inv.0 inv.1 16 c.loop-others-test.true in
    omega (arith, inv.2, parts, c.count_part.ensures, count_few c.args.regs.now c.requires.few)

pub loop-others-preserved : goal.loop-others-preserved
loop-others-preserved c =
    let others = c.loop-others.others.now in
    let inv = c.loop-others.invariant in
    let parts = count_parts others inv.0 inv.1 16 c.loop-others-test.true in
    rw from_on (
      record { few = omega (arith, inv.0.few, length-drop {A = ℕ}); threes = omega (arith, inv.0.threes, length-drop {A = ℕ}) },
      bytes_drop PART others inv.1,
      omega (arith, inv.2, parts, c.count_part.ensures),
    )

pub overflow_add-result : goal.overflow_add-result
overflow_add-result c =
    omega (arith, c.loop-others.invariant.2, c.count_part-2.ensures, count_few c.args.regs.now c.requires.few)
