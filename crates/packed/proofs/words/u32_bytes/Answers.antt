-- `packed::words::u32_bytes` meets its contract: byte i of a number is its digit i to the base 256. Assumes nothing.
use mathlib.Core.Path.{sym, ◌∙◌}
use Rattle.model.proofs.packing.Digits.{digits_shifted}
use Rattle.packed.proofs.words.u32_bytes.Goals as goal

pub returns : goal.returns
returns c = c.to_le_bytes.ensures ∙ sym (digits_shifted 256 3 _)
