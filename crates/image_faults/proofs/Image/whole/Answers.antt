-- `image_faults::Image::whole` meets its contract. Assumes nothing.
use native.Mathlib.Nat.{le_refl}
use native.Mathlib.Omega.{arith}
use lib.Pow.{pow_pos, pow_mono}
use Rattle.image_faults.proofs.Image.whole.Goals as goal

pub by_bitmap-requires : goal.by_bitmap-requires
by_bitmap-requires c = (le_refl _, omega (arith, pow_pos c.args.self.now.header.lg_k), omega (arith, pow_mono c.if-self-le12.true), omega arith)

pub by_bitmap-requires-else-self-le12 : goal.by_bitmap-requires-else-self-le12
by_bitmap-requires-else-self-le12 c = (le_refl _, omega (arith, pow_pos c.args.self.now.header.lg_k), omega (arith, pow_mono c.requires), omega arith)
