-- `aux_map::grow` meets its contract: after i words, `into` is the refilling of zeros by these. Room: fewer words are used than there are places.
-- Assumes nothing.
use mathlib.Core.Path.{◌≡◌, sym, ◌∙◌, ap, subst}
use mathlib.Core.List.{List}
use Prim.Native.Nat.{ℕ, ◌+◌, ◌<◌}
use native.Mathlib.Omega.{arith}
use lib.ListN.{length, take, replicate}
use lib.Seq.{take-length}
use Rattle.std.proofs.Common.{rules}
use Rattle.model.specs.Table.{Room, place, refill, grown}
use Rattle.model.proofs.table.Search.{place_lt}
use Rattle.model.proofs.table.Refill.{part_length, part_room, part_put, part_skip}
use Rattle.aux_map.specs.Grow.{Doubled}
use Rattle.aux_map.proofs.grow.Goals as goal
use Rattle.aux_map.proofs.grow.Goals.{then-w-ne0, else-w-ne0}

-- at a loop's head: the room while there is a word to re-insert, and the place that it gets
room : (t into₀ into : List ℕ) (i : ℕ) → Doubled t into₀ → into ≡ refill (replicate (length t + length t) 0) (take i t) → i < length t → Room into
room t into₀ into i d e h = subst Room (sym e) (part_room t d.lg i d.size h)

inside : (t into₀ into : List ℕ) (i s p : ℕ) → Doubled t into₀ → into ≡ refill (replicate (length t + length t) 0) (take i t) → i < length t → p ≡ place into s → p < length into
inside t into₀ into i s p d e h q = subst (λ (x : ℕ). x < length into) (sym q) (place_lt into s (room t into₀ into i d e h))

pub loop-w-init : goal.loop-w-init
unfolding refill
loop-w-init c =
    let cleared : c.fill.new.self ≡ replicate (length c.args.into.now) 0 = search rules in cleared ∙ ap (λ (n : ℕ). replicate n 0) c.requires.twice

pub probe-at-requires : goal.probe-at-requires
probe-at-requires c = room c.args.table.now c.args.into.now _ c.loop-w.w-index c.requires c.loop-w.invariant c.loop-w-test.true

pub offset_bounds-into-at : goal.offset_bounds-into-at
offset_bounds-into-at c =
    omega (arith, inside c.args.table.now c.args.into.now _ c.loop-w.w-index _ _ c.requires c.loop-w.invariant c.loop-w-test.true c.probe-at.ensures, ap length c.loop-w.invariant, part_length c.args.table.now c.loop-w.w-index)

pub bounds-into-at : goal.bounds-into-at
bounds-into-at c = inside c.args.table.now c.args.into.now _ c.loop-w.w-index _ _ c.requires c.loop-w.invariant c.loop-w-test.true c.probe-at.ensures

pub loop-w-preserved : goal.loop-w-preserved
loop-w-preserved c =
    let t = c.args.table.now in
    let h : c.loop-w.w-index < length t = omega arith in
    elim c.if-w-ne0.branch [
      | then-w-ne0 w ↦ w.into-is ∙ part_put t c.loop-w.into c.loop-w.w-index h c.loop-w.invariant _ w.if-w-ne0.true (w.probe-at.ensures ∙ ap (place c.loop-w.into) w.slot.ensures)
      | else-w-ne0 w ↦ w.into-is ∙ part_skip t c.loop-w.into c.loop-w.w-index h c.loop-w.invariant w.if-w-ne0.false
    ]

pub returns : goal.returns
unfolding grown
returns c =
    let t = c.args.table.now in
    let e : c.loop-w.w-index ≡ length t = omega arith in
    c.loop-w.invariant ∙ ap (refill (replicate (length t + length t) 0)) (ap (λ (n : ℕ). take n t) e ∙ take-length t)
