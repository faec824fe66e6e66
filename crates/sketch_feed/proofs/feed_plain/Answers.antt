-- `sketch_feed::feed_plain` meets its contract: each kind's own feed. Assumes nothing.
use Rattle.array8.proofs.Eight.{eight_ready}
use Rattle.array6.proofs.Six.{six_ready}
use Rattle.sketch_check.proofs.ByKind.{kind_as}
use Rattle.sketch_feed.proofs.PlainKept.{fed_8, is_6, fed_6}
use Rattle.sketch_feed.proofs.feed_plain.Goals as goal

pub feed-left-requires : goal.feed-left-requires
feed-left-requires c =
    let pre = c.requires in
    let eight = c.if-s-eq8.true in
    eight_ready _ _ eight (kind_as pre.shaped eight) (λ i. (c.slice_known-1.given i).fits) _ pre.good

pub returns-then-s-eq8 : goal.returns-then-s-eq8
returns-then-s-eq8 c =
    fed_8 c.requires c.if-s-eq8.true (λ i. (c.slice_known-1.given i).fits) c.feed-left.ensures c.plain.ensures

pub feed-left-requires-2 : goal.feed-left-requires-2
feed-left-requires-2 c =
    let pre = c.requires in
    let six = is_6 pre c.if-s-eq8.false in
    six_ready _ _ six (kind_as pre.shaped six) _ pre.good

pub returns : goal.returns
returns c =
    let pre = c.requires in
    fed_6 pre (is_6 pre c.if-s-eq8.false) c.feed-left-2.ensures c.plain-2.ensures
