-- `aux_table::build` meets its contract: the invariant is `Turn` of `Building`. Assumes nothing.
use mathlib.Core.Path.{◌≡◌, subst}
use Prim.Native.Nat.{ℕ, ◌+◌, ◌-◌}
use native.Mathlib.Omega.{arith}
use lib.ListN.{length, drop}
use Rattle.aux_table.proofs.Building.{Turn, turn_none, turn_more, insertable, spared_sum}
use Rattle.aux_table.proofs.build.Goals as goal

pub loop-j-init : goal.loop-j-init
loop-j-init c =
    let a = c.args in
    let z : 0 ≡ a.top - a.top = omega arith in
    subst (λ (n : ℕ). Turn a.base a.top (length a.area.now) (drop a.top a.scratch.now) a.area.now a.scratch.now a.base n a.top) z (turn_none _ _ _ _ c.requires)

pub insert-size-requires : goal.insert-size-requires
insert-size-requires c =
    let ok = c.requires in
    insertable _ _ _ _ ok.based ok.words ok.fits (spared_sum _ _ _ _ ok) _ _ _ _ _ c.loop-j.invariant (omega arith)

pub loop-j-preserved : goal.loop-j-preserved
loop-j-preserved c =
    let ok = c.requires in
    let a = c.args in
    let after = c.insert-size in
    let e : c.loop-j.j - a.top + 1 ≡ c.loop-j.j + 1 - a.top = omega arith in
    subst (λ (n : ℕ). Turn a.base a.top (length a.area.now) (drop a.top a.scratch.now) after.new.area after.new.scratch after.result n (c.loop-j.j + 1)) e
    (turn_more _ _ _ _ ok.based ok.words ok.fits (spared_sum _ _ _ _ ok) _ _ _ _ _ c.loop-j.invariant (omega arith) _ _ _ after.auto.area after.auto.scratch after.ensures)
