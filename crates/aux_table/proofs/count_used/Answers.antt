-- `aux_table::count_used` meets its contract: n counts the words passed. Assumes nothing.
use mathlib.Core.Path.{◌≡◌, refl, sym, ◌∙◌, ap}
use Prim.Native.Nat.{ℕ, ◌+◌}
use native.Mathlib.Omega.{arith}
use lib.ListN.{length, take}
use lib.Seq.{take-length}
use Rattle.model.specs.Table.{used}
use Rattle.model.proofs.table.Refill.{used_skip, used_step}
use Rattle.aux_table.proofs.count_used.Goals as goal
use Rattle.aux_table.proofs.count_used.Goals.{then-w-ne0, else-w-ne0}

pub loop-w-init : goal.loop-w-init
unfolding used
loop-w-init c = (omega arith, refl)

pub loop-w-preserved : goal.loop-w-preserved
loop-w-preserved c =
    let t = c.args.table.now in
    elim c.if-w-ne0.branch [
      | then-w-ne0 w ↦ (omega arith, w.n-is ∙ ap (λ (k : ℕ). k + 1) c.loop-w.invariant.1 ∙ sym (used_step t c.loop-w.w-index c.loop-w-test.true w.if-w-ne0.true))
      | else-w-ne0 w ↦ (omega arith, w.n-is ∙ c.loop-w.invariant.1 ∙ sym (used_skip t c.loop-w.w-index c.loop-w-test.true w.if-w-ne0.false))
    ]

pub returns : goal.returns
returns c =
    let t = c.args.table.now in
    let e : c.loop-w.w-index ≡ length t = omega arith in
    c.loop-w.invariant.1 ∙ ap (λ (n : ℕ). used (take n t)) e ∙ ap used (take-length t)
