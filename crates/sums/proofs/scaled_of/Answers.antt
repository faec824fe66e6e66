-- `sums::scaled_of` meets its contract. The invariant: n is what the registers weigh after so many turns, whichever registers were counted; and it leaves room for the turns to come.
-- Assumes nothing.
use mathlib.Core.Path.{sym, ap, ◌∙◌}
use Prim.Native.Nat.{ℕ, ◌+◌}
use native.Mathlib.Nat.{le_antisymm}
use native.Mathlib.Numerals.{add-one}
use native.Mathlib.Omega.{arith}
use Rattle.std.proofs.lemmas.List.Edits.{length-between, get_or-between}
use Rattle.sums.proofs.Weights.{weighed, weighed_none, weighed_next, weighed_all, horner_turn}
use Rattle.sums.proofs.scaled_of.Goals as goal

pub loop-many-init : goal.loop-many-init
loop-many-init c = (omega arith, λ R k. sym (weighed_none _ R))

pub loop-many-preserved : goal.loop-many-preserved
loop-many-preserved c =
    let from = c.args.from in
    let turn = c.loop-many.many-index in
    let few = length-between c.args.counts from (from + 32) in (
      horner_turn _ c.from.result turn c.loop-many.invariant.0 (omega arith),
      λ R k. rw (add-one turn) (omega (arith, few, c.from.ensures, get_or-between c.args.counts from (from + 32) turn 0, weighed_next from turn R, c.loop-many.invariant.1 R k, k.each (from + turn) (omega arith))),
    )

pub returns : goal.returns
returns c = λ R k.
    let from = c.args.from in
    c.loop-many.invariant.1 R k ∙ ap (λ (v : ℕ). weighed from v R) (le_antisymm (omega arith) (omega arith)) ∙ weighed_all from R
