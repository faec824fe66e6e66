-- `image_words::take` meets its contract. Assumes nothing.
use mathlib.Core.Path.{◌∙◌, ap₂}
use Prim.Native.Nat.{◌^◌}
use native.Mathlib.Nat.{mod-le}
use native.Mathlib.Omega.{arith}
use Rattle.model.specs.Coupon.{slot, word}
use Rattle.image_words.proofs.take.Goals as goal

pub word-requires : goal.word-requires
word-requires c =
    (omega (arith, c.home.ensures, mod-le (slot c.args.w) (2 ^ c.args.lg_k)), omega (arith, c.value.ensures))

pub returns : goal.returns
returns c = c.word.ensures ∙ ap₂ word c.home.ensures c.value.ensures
