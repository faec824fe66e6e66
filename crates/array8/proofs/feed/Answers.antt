-- `array8::feed` meets its contract. Assumes nothing.
use borrow.Author.Rules.{rules}
use Rattle.array8.proofs.Coupons.{counted_8, given_fed}
use Rattle.array8.proofs.feed.Goals as goal

pub feed-requires : goal.feed-requires
feed-requires c = counted_8 c.requires (λ i. search rules)

pub returns : goal.returns
returns c = given_fed c.requires (λ i. search rules) (λ i. (c.type_inv.regs i).fits) c.feed.auto.regs c.feed.ensures
