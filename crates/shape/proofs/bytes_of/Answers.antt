-- `shape::bytes_of` meets its contract: each arm's pattern says which number it is. Assumes nothing.
use mathlib.Core.Path.{sym, ◌∙◌}
use native.Mathlib.Omega.{arith}
use Rattle.model.proofs.packing.Lengths.{if_eight, if_six, if_neither}
use Rattle.shape.proofs.bytes_of.Goals as goal

pub returns-in-8 : goal.returns-in-8
returns-in-8 c = c.num_registers-k.ensures ∙ sym (if_eight _ c.in-8.is)

pub returns-in-6 : goal.returns-in-6
returns-in-6 c = rw c.num_registers-k.ensures (sym (if_six _ c.in-6.is))

pub returns-in_default : goal.returns-in_default
returns-in_default c = rw c.num_registers-k.ensures (sym (if_neither _ (λ e. omega arith) (λ e. omega arith)))
