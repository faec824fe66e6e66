-- `aux_map::find` meets its contract: the place is `probe`'s, and its word's test picks the answer. Assumes nothing.
use mathlib.Core.Path.{sym, subst}
use Prim.Native.Nat.{ℕ, ◌<◌}
use native.Mathlib.Omega.{arith}
use borrow.Author.Tests.{eq-eqb, ne_eqb}
use lib.ListN.{length}
use Rattle.model.specs.Table.{word_at}
use Rattle.model.proofs.table.Search.{place_lt}
use Rattle.aux_map.specs.Search.{finds}
use Rattle.aux_map.proofs.find.Goals as goal
use Rattle.aux_map.proofs.find.Goals.{After-probe-at}

inside : (c : After-probe-at) → c.probe-at.result < length c.args.table.now
inside c =
    subst (λ (p : ℕ). p < length c.args.table.now) (sym c.probe-at.ensures) (place_lt c.args.table.now c.args.slot c.requires)

pub offset_bounds-table-at : goal.offset_bounds-table-at
offset_bounds-table-at c =
    omega (arith, inside c)

pub bounds-table-at : goal.bounds-table-at
bounds-table-at c =
    inside (goal.at.bounds-table-at c).After-probe-at

pub returns-then-table-at-eq0 : goal.returns-then-table-at-eq0
unfolding finds word_at
returns-then-table-at-eq0 c = rw (← c.probe-at.ensures, eq-eqb _ 0 c.if-table-at-eq0.true)

pub returns-else-table-at-eq0 : goal.returns-else-table-at-eq0
unfolding finds word_at
returns-else-table-at-eq0 c = rw (← c.probe-at.ensures, ne_eqb _ 0 c.if-table-at-eq0.false)
