-- `sketch::view` meets its contract: a refusal shows nothing, and else the reference goes back. Assumes nothing.
use mathlib.Core.Path.{◌≡◌, sym, ap, ◌∙◌}
use borrow.Author.Tests.{eq-eqb, ne_eqb}
use Rattle.model.specs.Calls.{eight_no, view_of}
use Rattle.model.proofs.calls.Refusals.{refusal_some}
use Rattle.sketch.proofs.view.Goals as goal

pub returns-in-Err : goal.returns-in-Err
unfolding view_of
returns-in-Err c =
    let refused : eight_no c.args.sketch c.args.regs.now ≡ 0 → ⊥ =
    λ e. refusal_some _ (c.in-Err.ensures ∙ e) in
    (simp (ne_eqb _ 0 refused), λ e. absurd (refused e))

pub returns-in-Ok : goal.returns-in-Ok
unfolding view_of
returns-in-Ok c = (ap (λ x. x.now) c.values.ensures ∙ simp (eq-eqb _ 0 (sym c.in-Ok.ensures)), λ e. c.values.ensures)
