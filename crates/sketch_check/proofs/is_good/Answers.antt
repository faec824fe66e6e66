-- `sketch_check::is_good` meets its contract: the survey's tests are the book's, and the table's is the last. Assumes nothing.
use mathlib.Core.Path.{sym, ap, ◌∙◌}
use mathlib.Core.Bool.{not}
use borrow.Author.Tests.{not-true, not-false, ne_eqb}
use Rattle.sketch_check.proofs.Goods.{no_counts, no_values, no_spare, no_tally, plain_good, can_check, table_good}
use Rattle.sketch_check.proofs.is_good.Goals as goal

pub returns-then-not-counts_fit : goal.returns-then-not-counts_fit
returns-then-not-counts_fit c = no_counts _ _ _ c.counts_fit.ensures c.if-not-counts_fit.true

pub survey-seen-requires : goal.survey-seen-requires
survey-seen-requires c = record { shaped = c.requires; counts = sym c.counts_fit.ensures ∙ c.if-not-counts_fit.false }

pub returns-then-not-seen : goal.returns-then-not-seen
returns-then-not-seen c = no_values _ _ _ c.counts_fit.ensures c.survey-seen.ensures (not-true _ c.if-not-seen.true)

pub returns-then-not-seen-2 : goal.returns-then-not-seen-2
returns-then-not-seen-2 c = no_spare _ _ _ c.counts_fit.ensures c.survey-seen.ensures (not-true _ c.if-not-seen-2.true)

pub returns-then-not-seen-3 : goal.returns-then-not-seen-3
returns-then-not-seen-3 c = no_tally _ _ _ c.counts_fit.ensures c.survey-seen.ensures (not-true _ c.if-not-seen-3.true)

pub returns-then-s-ne4 : goal.returns-then-s-ne4
returns-then-s-ne4 c =
    ap not (ne_eqb _ _ c.if-s-ne4.true)
    ∙ plain_good _ _ _ c.counts_fit.ensures c.survey-seen.ensures c.if-not-counts_fit.false (not-false _ c.if-not-seen.false) (not-false _ c.if-not-seen-2.false) (not-false _ c.if-not-seen-3.false)
    c.if-s-ne4.true

pub table_fits-requires : goal.table_fits-requires
table_fits-requires c =
    can_check _ _ c.counts_fit.ensures c.if-not-counts_fit.false c.survey-seen.ensures c.requires c.if-s-ne4.false

pub returns-else-s-ne4 : goal.returns-else-s-ne4
returns-else-s-ne4 c =
    table_good _ _ _ c.counts_fit.ensures c.survey-seen.ensures c.if-not-counts_fit.false (not-false _ c.if-not-seen.false) (not-false _ c.if-not-seen-2.false) (not-false _ c.if-not-seen-3.false)
    c.if-s-ne4.false c.table_fits.ensures
