-- `sketch_check::check_shape` meets its contract: one law of the ladder for each return. Assumes nothing.
use mathlib.Core.Path.{◌≡◌, sym, ◌∙◌}
use mathlib.Core.Bool.{true}
use Rattle.model.specs.Sketch.{is_kind}
use Rattle.model.specs.Check.{lgk_no}
use Rattle.model.proofs.calls.Rungs.{lgk_off, lgk_right, size_off, size_right, shape_kind, shape_lgk, shape_size, shape_fits}
use Rattle.sketch_check.proofs.check_shape.Goals as goal
use Rattle.sketch_check.proofs.check_shape.Goals.{Else-not-is_kind, Else-not-is_lg_k}

known : (c : Else-not-is_kind) → is_kind c.args.kind ≡ true
known c = sym c.is_kind.ensures ∙ c.if-not-is_kind.false

sized : (c : Else-not-is_lg_k) → lgk_no c.args.lg_k ≡ 0
sized c = lgk_right _ _ c.is_lg_k.ensures c.if-not-is_lg_k.false

pub returns-then-not-is_kind : goal.returns-then-not-is_kind
returns-then-not-is_kind c = shape_kind _ _ _ (sym c.is_kind.ensures ∙ c.if-not-is_kind.true)

pub returns-then-not-is_lg_k : goal.returns-then-not-is_lg_k
returns-then-not-is_lg_k c =
    shape_lgk _ _ _ (known (goal.at.returns-then-not-is_lg_k c).Else-not-is_kind) (lgk_off _ _ c.is_lg_k.ensures c.if-not-is_lg_k.true)

pub bytes_of-requires : goal.bytes_of-requires
bytes_of-requires c = (c.is_lg_k.ensures.0 c.if-not-is_lg_k.false).1

pub returns-then-len-bytes_of : goal.returns-then-len-bytes_of
returns-then-len-bytes_of c =
    let past = goal.at.returns-then-len-bytes_of c in
    shape_size _ _ _ (known past.Else-not-is_kind) (sized past.Else-not-is_lg_k) (size_off _ _ _ (λ z. c.if-len-bytes_of.true (z ∙ sym c.bytes_of.ensures)))

pub returns : goal.returns
returns c =
    let past = goal.at.returns c in
    shape_fits _ _ _ (known past.Else-not-is_kind) (sized past.Else-not-is_lg_k) (size_right _ _ _ (c.if-len-bytes_of.false ∙ c.bytes_of.ensures))
