-- `array8::merge_array_with_downsample` meets its contract: each part of the source is as long as the target, and meets its registers from the first one on. Assumes nothing.
use mathlib.Core.Path.{sym, ◌∙◌}
use native.Mathlib.Omega.{arith}
use Rattle.array8.proofs.Masks.{power_some}
use Rattle.array8.proofs.Windows.{parted_first, parted_turn, parted_end}
use Rattle.array8.proofs.merge_array_with_downsample.Goals as goal

pub chunks_exact-part-items-requires : goal.chunks_exact-part-items-requires
chunks_exact-part-items-requires c = power_some c.requires.target

pub loop-part-init : goal.loop-part-init
loop-part-init c =
    rw (c.into_iter-part-iterator.ensures.into_iter_gives, c.chunks_exact-part-items.ensures.rest) (c.chunks_exact-part-items.ensures.size, parted_first _ _ c.requires)

pub merge_array_same_lgk-requires : goal.merge_array_same_lgk-requires
merge_array_same_lgk-requires c =
    c.loop-part.invariant.1.size ∙ sym (c.in-Some.ensures.steps.1.1 ∙ c.loop-part.invariant.0)

pub loop-part-preserved : goal.loop-part-preserved
loop-part-preserved c =
    let step = c.in-Some.ensures.steps in
    let loop = c.loop-part.invariant in
    (step.0 ∙ loop.0, parted_turn _ loop.1 step.1.0 (step.1.1 ∙ loop.0) c.merge_array_same_lgk.auto.target c.merge_array_same_lgk.ensures)

pub returns : goal.returns
returns c =
    let step = c.in-None.ensures.steps in
    parted_end c.loop-part.invariant.1 (omega (arith, step.1.0, c.loop-part.invariant.0))
