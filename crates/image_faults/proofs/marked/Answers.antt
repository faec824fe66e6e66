-- `image_faults::marked` meets its contract. Assumes nothing.
use Rattle.image_faults.proofs.Bits.{bit_get}
use Rattle.image_faults.proofs.marked.Goals as goal

pub returns : goal.returns
returns c = bit_get _ (λ i. (c.type_inv.marks i).fits) _
