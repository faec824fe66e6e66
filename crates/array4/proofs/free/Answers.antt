-- `array4::free` meets its contract: `Freeing` says what each turn leaves. Assumes nothing.
use mathlib.Core.Path.{sym, ◌∙◌, subst}
use mathlib.Core.List.{List}
use Prim.Native.Nat.{ℕ, ◌+◌}
use Rattle.array4.specs.Rise.{Freed}
use Rattle.array4.proofs.Freeing as freeing
use Rattle.array4.proofs.free.Goals as goal
use Rattle.array4.proofs.free.Goals.{then-value, else-value}

pub loop-w-preserved : goal.loop-w-preserved
loop-w-preserved c =
    let f : List ℕ → Type 0 = Freed c.args.table.now c.args.value (c.loop-w.w-index + 1) c.args.regs.now in
    let v = c.value.ensures in
    elim c.if-value.branch [
      | then-value w ↦ subst f (sym w.regs-is) (freeing.freed_put c.loop-w.invariant _ (sym v ∙ w.if-value.true) (rw w.slot.ensures at w.put_raw.ensures))
      | else-value w ↦ subst f (sym w.regs-is) (freeing.freed_skip c.loop-w.invariant (λ e. w.if-value.false (v ∙ e)))
    ]
