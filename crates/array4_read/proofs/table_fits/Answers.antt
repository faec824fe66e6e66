-- `table_fits` meets its contract: each part that fails denies what the test asks, and together they are the test. Assumes nothing.
use Rattle.model.specs.Table.{base_for}
use Rattle.aux_table.specs.Check.{Ordered}
use Rattle.array4_read.proofs.Passing as passing
use Rattle.array4_read.proofs.table_fits.Goals as goal
use Rattle.array4_read.proofs.table_fits.Goals.{Else-not-check}

-- what the check of the table's order showed
ordered : (c : Else-not-check) → Ordered (base_for c.args.s.lg_k) c.args.s.aux_count c.args.aux.now
ordered c =
    rw (← c.base_for-base.ensures) (c.check.ensures.0 c.if-not-check.false)

pub returns-then-tokens-s : goal.returns-then-tokens-s
returns-then-tokens-s c =
    passing.refused _ _ c.requires _ (λ t. c.if-tokens-s.true (passing.asks_tokens _ _ c.requires _ t))

pub check-requires : goal.check-requires
check-requires c = rw c.base_for-base.ensures (passing.is_based _ _ c.requires)

pub returns-then-not-check : goal.returns-then-not-check
returns-then-not-check c =
    passing.refused _ _ c.requires _ (λ t. c.check.ensures.1 c.if-not-check.true (rw c.base_for-base.ensures (passing.asks_ordered _ _ c.requires _ t)))

pub words_fit-requires : goal.words_fit-requires
words_fit-requires c = passing.few _ _ c.requires

pub returns : goal.returns
returns c =
    passing.answered _ _ c.requires _ c.if-tokens-s.false (ordered (goal.at.returns c).Else-not-check) _ c.table_len-size.ensures _ c.words_fit.ensures
