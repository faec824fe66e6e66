-- `blocks::block_len` meets its contract. Assumes nothing.
use Rattle.blocks.proofs.Levels.{long_least}
use Rattle.blocks.proofs.block_len.Goals as goal

pub returns : goal.returns
returns c = λ p h. rw c.min.ensures (long_least p h)
