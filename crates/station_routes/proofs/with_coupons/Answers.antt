-- `station_routes::with_coupons` meets its contract: the history grows by a feed; kind 8 always has room. Assumes nothing.
use mathlib.Core.Path.{ap, ◌∙◌}
use native.Mathlib.Omega.{arith}
use Rattle.model.specs.Calls.{Out}
use Rattle.station_routes.proofs.Given.{fed_some}
use Rattle.station_routes.proofs.Histories.{feed_goes, stands_feed}
use Rattle.station_routes.proofs.with_coupons.Goals as goal

pub returns-in_err-fed : goal.returns-in_err-fed
returns-in_err-fed c = λ got h.
    absurd (fed_some _ _ _ c.in_err-fed.was (ap (λ (o : Out). o.no) c.feed.ensures ∙ feed_goes _ _ c.feed.ensures h (λ q. absurd (omega arith)) (λ q. absurd (omega arith))))

pub returns : goal.returns
returns c = λ got h. stands_feed _ _ (rw c.in_ok-fed.was at c.feed.ensures) h (λ q. absurd (omega arith)) (λ q. absurd (omega arith))
