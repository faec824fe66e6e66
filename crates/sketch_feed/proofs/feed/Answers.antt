-- `sketch_feed::feed` meets its contract: kind 4's own batch, or every coupon is taken. Assumes nothing.
use Rattle.sketch_feed.proofs.Batch.{can_plain, all_taken}
use Rattle.sketch_feed.proofs.feed.Goals as goal

pub feed-requires : goal.feed-requires
feed-requires c =
    let four = c.if-s-eq4.true in
    let pre = c.requires in
    record { kind = four; good = pre.good; spare = pre.spare four }

pub feed_plain-requires : goal.feed_plain-requires
feed_plain-requires c = can_plain _ _ _ c.if-s-eq4.false c.requires.good

pub returns : goal.returns
returns c = all_taken _ _ _ c.if-s-eq4.false _ c.feed_plain.ensures
