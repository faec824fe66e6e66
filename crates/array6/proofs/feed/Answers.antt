-- `array6::feed` meets its contract. Assumes nothing.
use borrow.Author.Rules.{rules}
use Rattle.array6.proofs.Coupons.{counted_6, given_fed}
use Rattle.array6.proofs.feed.Goals as goal

pub feed-requires : goal.feed-requires
feed-requires c = counted_6 c.requires.counted

pub returns : goal.returns
returns c = given_fed c.requires (λ i. search rules) (λ i. (c.type_inv.regs i).fits) c.feed.auto.regs c.feed.ensures
