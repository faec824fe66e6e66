-- `image_check::memory` meets its contract. Assumes nothing.
use mathlib.Core.Path.{◌≡◌, sym, ◌∙◌}
use Rattle.model.specs.Check.{size_no}
use Rattle.model.proofs.calls.Rungs.{size_off, size_right, memory_size, memory_scratch, memory_right}
use Rattle.image_check.proofs.memory.Goals as goal
use Rattle.image_check.proofs.memory.Goals.{Else-regs_len-bytes_of}

sized : (c : Else-regs_len-bytes_of) → let a = c.args in size_no a.kind a.lg_k a.regs_len ≡ 0
sized c =
    size_right _ _ _ (c.if-regs_len-bytes_of.false ∙ c.bytes_of.ensures)

pub returns-then-regs_len-bytes_of : goal.returns-then-regs_len-bytes_of
returns-then-regs_len-bytes_of c = memory_size _ _ _ _ _ (size_off _ _ _ (λ e. c.if-regs_len-bytes_of.true (e ∙ sym c.bytes_of.ensures)))

pub returns-then-not-scratch_fits : goal.returns-then-not-scratch_fits
returns-then-not-scratch_fits c =
    memory_scratch _ _ _ _ _ (sized (goal.at.returns-then-not-scratch_fits c).Else-regs_len-bytes_of) (sym c.scratch_fits.ensures ∙ c.if-not-scratch_fits.true)

pub returns : goal.returns
returns c =
    memory_right _ _ _ _ _ (sized (goal.at.returns c).Else-regs_len-bytes_of) (sym c.scratch_fits.ensures ∙ c.if-not-scratch_fits.false)
