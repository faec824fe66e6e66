-- `aux_table::keep` meets its contract: the end of `into`, from top on, has what is kept of the table's words passed. Assumes nothing.
use mathlib.Core.Path.{◌≡◌, ◌∙◌, ap}
use Prim.Native.Nat.{ℕ, ◌-◌, ◌<◌}
use native.Mathlib.Omega.{arith}
use mathlib.Core.List.{[], ◌∷◌, ◌++◌}
use lib.ListN.{length, get_or, set, drop, length-set}
use Rattle.std.proofs.lemmas.Grind.{get_or_default_zero}
use Rattle.std.specs.Slice.Iter.{iter_rest}
use Rattle.std.proofs.lemmas.List.{length_push, get_or-reverse, length-reverse}
use Rattle.std.proofs.lemmas.Iterator.Adapters.{YieldsList-from_rev_slice}
use Rattle.std.proofs.lemmas.Iterator.Consumers.{YieldsList-turn}
use Rattle.model.specs.Coupon.{value}
use Rattle.model.specs.Table.{keeps}
use Rattle.aux_table.proofs.Keeping.{keeps_none, keep_passed, keep_taken}
use Rattle.aux_table.proofs.keep.Goals as goal
use Rattle.aux_table.proofs.keep.Goals.{In-Some}

-- a turn's word: the table's last but those passed
turn : (c : In-Some) → (length c.loop-w.yielded < length c.args.table.now) × (c.in-Some.field-0.now ≡ get_or c.args.table.now (length c.args.table.now - length c.loop-w.yielded - 1) 0)
turn c =
    let t = c.args.table.now in
    let rest : iter_rest c.into_iter-w-iterator.result.iter ≡ t = cc in
    let at = YieldsList-turn (YieldsList-from_rev_slice t rest) c.loop-w.yielded _ c.loop-w.yielded_by _ _ c.in-Some.field-0 c.in-Some.is c.next.ensures.steps in
    let h : length c.loop-w.yielded < length t = omega (arith, at.0, length-reverse t) in
    let e : length t - 1 - length c.loop-w.yielded ≡ length t - length c.loop-w.yielded - 1 = omega arith in
    (h, at.1 ∙ get_or-reverse t (length c.loop-w.yielded) _ h ∙ ap (λ (i : ℕ). get_or t i c.in-Some.field-0.now) e ∙ get_or_default_zero t _ _ (omega arith))

pub loop-w-init : goal.loop-w-init
loop-w-init c = (tt, tt, omega arith, omega arith, keeps_none c.args.limit c.args.table.now c.args.into.now ∙ ap (λ (n : ℕ). keeps c.args.limit (drop n c.args.table.now)) (let e : length c.args.table.now ≡ length c.args.table.now - 0 = omega arith in e))

pub loop-w-preserved-then-limit-from : goal.loop-w-preserved-then-limit-from
loop-w-preserved-then-limit-from c =
    let at = turn (goal.at.loop-w-preserved-then-limit-from c).In-Some in
    let t = c.args.table.now in
    let i = length t - length c.loop-w.yielded in
    let w = c.in-Some.field-0.now in
    let same = length-set c.loop-w.into (c.loop-w.top - 1) w in
    let more = length_push c.loop-w.yielded c.in-Some.field-0 in
    let e : i - 1 ≡ length t - length (c.loop-w.yielded ++ c.in-Some.field-0 ∷ []) = omega arith in (
      tt,
      tt,
      omega arith,
      omega arith,
      ap (λ (x : ℕ). drop (c.loop-w.top - 1) (set c.loop-w.into (c.loop-w.top - 1) x)) at.1
          ∙ keep_taken c.args.limit t c.loop-w.into i c.loop-w.top (omega arith) (omega arith) c.loop-w.invariant.4 c.value.result (c.value.ensures ∙ ap value at.1) (omega arith) (omega arith) c.loop-w.invariant.2
          ∙ ap (λ (n : ℕ). keeps c.args.limit (drop n t)) e,
    )

pub loop-w-preserved : goal.loop-w-preserved
loop-w-preserved c =
    let at = turn (goal.at.loop-w-preserved c).In-Some in
    let t = c.args.table.now in
    let i = length t - length c.loop-w.yielded in
    let more = length_push c.loop-w.yielded c.in-Some.field-0 in
    let e : i - 1 ≡ length t - length (c.loop-w.yielded ++ c.in-Some.field-0 ∷ []) = omega arith in (
      tt,
      tt,
      c.loop-w.invariant.2,
      omega arith,
      keep_passed c.args.limit t c.loop-w.into i c.loop-w.top (omega arith) (omega arith) c.loop-w.invariant.4 c.value.result (c.value.ensures ∙ ap value at.1) (omega arith)
          ∙ ap (λ (n : ℕ). keeps c.args.limit (drop n t)) e,
    )
