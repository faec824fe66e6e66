-- `array8::update` meets its contract: a batch of one. Assumes nothing.
use borrow.Author.Rules.{rules}
use native.Mathlib.Omega.{arith}
use Rattle.plain.proofs.Coupons.{taken_given}
use Rattle.array8.proofs.Coupons.{counted_8, given_fed}
use Rattle.array8.proofs.update.Goals as goal

pub update-requires : goal.update-requires
update-requires c = counted_8 c.requires (λ i. search rules)

pub returns : goal.returns
returns c =
    given_fed c.requires (λ i. search rules) (λ i. (c.type_inv.regs i).fits) c.update.auto.regs (taken_given (counted_8 c.requires (λ i. search rules)) _ c.update.ensures (omega arith))
