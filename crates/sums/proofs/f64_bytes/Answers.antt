-- `sums::f64_bytes` meets its contract: byte i is what a division by 256 ^ i leaves, and so the digit. Assumes nothing.
use mathlib.Core.Path.{sym, ◌∙◌}
use Rattle.model.proofs.packing.Digits.{digits_shifted}
use Rattle.sums.proofs.f64_bytes.Goals as goal

pub returns : goal.returns
returns c = c.to_le_bytes.ensures ∙ sym (digits_shifted 256 7 _)
