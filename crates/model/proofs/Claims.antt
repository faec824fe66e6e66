-- The claims of specs/Claims.antt, each with its proof. Assumes nothing.
use Rattle.model.specs.Claims.{Demand1, AuxNone, EmptyWord, Unchanged, Coincide, FeedKeeps, FeedImageKeeps, MergeKeeps, TwiceIsRoom, ExactSums, OpensGood, OpensAlike, OpensAs, ReadsOne, Reopens, CouponsRead, FeedsAsBatch, Demand2, Demand3}
use Rattle.model.proofs.calls.Refused as refused
use Rattle.model.proofs.calls.Named as named
use Rattle.model.proofs.calls.Places as places
use Rattle.model.proofs.image.Entries as entries
use Rattle.model.proofs.image.EmptyWord as empty
use Rattle.model.proofs.histories.Demand1 as lines
use Rattle.model.proofs.image.OpenLines as opening
use Rattle.model.proofs.image.Opening.{open_good}
use Rattle.model.proofs.image.OpensAlike as passing
use Rattle.model.proofs.image.OpensAs as reading
use Rattle.model.proofs.image.WriteOpen.{write_open}
use Rattle.model.proofs.image.Lists as lists
use Rattle.model.proofs.image.CouponLines as coupons
use Rattle.model.proofs.image.CouponsRead as words
use Rattle.model.proofs.calls.Standing as standing
use Rattle.model.proofs.calls.Doubles as doubles
use Rattle.model.proofs.histories.Demands as two
use Rattle.model.proofs.histories.Demand3 as three

pub demand_1 : Demand1
demand_1 = record {
  start_lines = lines.start_lines;
  feed_lines = lines.feed_lines;
  feed_image_lines = coupons.feed_image_lines;
  unpack_lines = lines.unpack_lines;
  view_shows = lines.view_shows;
  view_hides = lines.view_hides;
  merge_lines = lines.merge_lines;
  sums_lines = lines.sums_lines;
  write_lines = lines.write_lines;
  open_lines = opening.open_lines;
  start_place = places.start_place;
  feed_place = places.feed_place;
  feed_image_place = lists.feed_image_place;
  merge_place = places.merge_place;
}

pub aux_none : AuxNone
aux_none = entries.aux_none

pub empty_word : EmptyWord
empty_word = empty.empty_word

pub unchanged : Unchanged
unchanged = refused.unchanged

pub coincide : Coincide
coincide = named.coincide

pub feed_keeps : FeedKeeps
feed_keeps = standing.feed_keeps

pub feed_image_keeps : FeedImageKeeps
feed_image_keeps = standing.feed_image_keeps

pub merge_keeps : MergeKeeps
merge_keeps = standing.merge_keeps

pub twice_is_room : TwiceIsRoom
twice_is_room = standing.twice_is_room

pub exact_sums : ExactSums
exact_sums = doubles.exact_sums

pub opens_good : OpensGood
opens_good = open_good

pub opens_alike : OpensAlike
opens_alike = passing.opens_alike

pub opens_as : OpensAs
opens_as = reading.opens_as

pub reads_one : ReadsOne
reads_one = reading.reads_one

pub reopens : Reopens
reopens = write_open

pub coupons_read : CouponsRead
coupons_read = words.coupons_read

pub feeds_as_batch : FeedsAsBatch
feeds_as_batch = lists.feeds_as_batch

pub demand_2 : Demand2
demand_2 = two.demand_2

pub demand_3 : Demand3
demand_3 = three.demand_3
