-- `packed::six::put_raw` meets its contract: a cell of 6 bits in a window of two bytes. Assumes nothing.
use borrow.Author.Rules.{rules}
use native.Mathlib.Omega.{arith}
use Rattle.model.proofs.packing.Packing.{put_two}
use Rattle.packed.proofs.six.put_raw.Goals as goal

pub returns : goal.returns
returns c =
    put_two 6 c.args.slot _ _ _ c.args.regs.now (λ i. search rules) (omega arith) (omega arith) c.window.ensures
    _ _ c.requires.1 (omega arith) c.replaced-next.ensures
