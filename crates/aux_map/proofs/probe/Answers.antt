-- `aux_map::probe` meets its contract: from each place that it comes to the search ends where it does from its start, and the measure is the
-- number of places that are still to be visited. Assumes nothing.
use mathlib.Core.Path.{◌≡◌, sym, ◌∙◌, ap, subst}
use mathlib.Core.Bool.{true, false}
use mathlib.Core.List.{List}
use Prim.Native.Nat.{ℕ, suc, ◌+◌, ◌*◌, ◌/◌, ◌%◌, ◌≤◌, ◌<◌}
use native.Mathlib.Omega.{arith}
use native.Mathlib.Nat.{mod-lt}
use lib.ListN.{length, get_or}
use Rattle.model.specs.Coupon.{slot}
use Rattle.model.specs.Table.{Room, stops, stride, steps_from, place_from, place}
use Rattle.model.proofs.table.Search.{size_pos, stride_odd, onward, onward_place, stopped, stops_empty, stops_slot, stops_not}
use Rattle.aux_map.proofs.probe.Goals as goal

module _ (t : List ℕ) (s : ℕ) (room : Room t) where
  begins : (at : ℕ) → at ≡ s % length t → (at < length t) × (place_from t s (stride (length t) s) at ≡ place t s)
  unfolding place
  begins at e = (subst (λ (p : ℕ). p < length t) (sym e) (mod-lt s (size_pos room)), ap (place_from t s (stride (length t) s)) e)

  module _ (at : ℕ) (inv : (at < length t) × (place_from t s (stride (length t) s) at ≡ place t s)) where
    found : stops s (get_or t at 0) ≡ true → at ≡ place t s
    found h = sym (stopped t s _ room (stride_odd (length t) s) at inv.0 h) ∙ inv.1

    module _ (empty : get_or t at 0 ≡ 0 → ⊥) (other : slot (get_or t at 0) ≡ s → ⊥) (q : ℕ) (by : q ≡ s / length t) (next : ℕ) (is : next ≡ (at + (q / 2 * 2 + 1)) % length t) where
      e : next ≡ (at + stride (length t) s) % length t
      e = is ∙ ap (λ (x : ℕ). (at + (x / 2 * 2 + 1)) % length t) by

      passed : stops s (get_or t at 0) ≡ false
      passed = stops_not s _ empty other

      fewer : suc (steps_from t s (stride (length t) s) next) ≤ steps_from t s (stride (length t) s) at
      fewer = omega (arith, ap (steps_from t s (stride (length t) s)) e, onward t s _ room (stride_odd (length t) s) at inv.0 passed)

      goes_on : (next < length t) × (place_from t s (stride (length t) s) next ≡ place t s)
      goes_on = (
        subst (λ (p : ℕ). p < length t) (sym e) (mod-lt _ (size_pos room)),
        ap (place_from t s (stride (length t) s)) e ∙ onward_place t s _ room (stride_odd (length t) s) at inv.0 passed ∙ inv.1,
      )

pub loop-w-init : goal.loop-w-init
loop-w-init c = begins _ _ c.requires _ c.wrap-at.ensures

pub loop-w-smaller : goal.loop-w-smaller
loop-w-smaller c =
    fewer _ _ c.requires _ c.loop-w.invariant c.if-w-eq0.false (λ e. c.if-slot.false (c.slot.ensures ∙ e)) _ c.quotient.ensures _ c.wrap-at-in-loop-w.ensures

pub loop-w-preserved : goal.loop-w-preserved
loop-w-preserved c =
    goes_on _ _ c.requires _ c.loop-w.invariant c.if-w-eq0.false (λ e. c.if-slot.false (c.slot.ensures ∙ e)) _ c.quotient.ensures _ c.wrap-at-in-loop-w.ensures

pub returns-then-w-eq0 : goal.returns-then-w-eq0
returns-then-w-eq0 c = found _ _ c.requires _ c.loop-w.invariant (stops_empty _ _ c.if-w-eq0.true)

pub returns-then-slot : goal.returns-then-slot
returns-then-slot c = found _ _ c.requires _ c.loop-w.invariant (stops_slot _ _ (sym c.slot.ensures ∙ c.if-slot.true))
