-- `image_check::form` meets its contract. Assumes nothing.
use mathlib.Core.Path.{sym, ◌∙◌}
use Rattle.model.proofs.calls.Rungs.{lgk_off, lgk_right, form_kind, form_lgk}
use Rattle.image_check.proofs.form.Goals as goal

pub returns-then-not-is_kind : goal.returns-then-not-is_kind
returns-then-not-is_kind c = form_kind _ _ (sym c.is_kind.ensures ∙ c.if-not-is_kind.true)

pub returns-then-not-is_lg_k : goal.returns-then-not-is_lg_k
returns-then-not-is_lg_k c =
    form_lgk _ _ 2 (sym c.is_kind.ensures ∙ c.if-not-is_kind.false) (lgk_off _ _ c.is_lg_k.ensures c.if-not-is_lg_k.true)

pub returns : goal.returns
returns c =
    form_lgk _ _ 0 (sym c.is_kind.ensures ∙ c.if-not-is_kind.false) (sym (lgk_right _ _ c.is_lg_k.ensures c.if-not-is_lg_k.false))
