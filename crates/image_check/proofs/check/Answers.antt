-- `image_check::check` meets its contract: one part of the ladder after the other. Assumes nothing.
use mathlib.Core.Path.{sym, ap, ◌∙◌}
use Rattle.model.specs.Answers.{said_of}
use Rattle.model.proofs.calls.Refusals.{handed_on}
use Rattle.image_check.specs.Passed.{Formed}
use Rattle.image_check.proofs.Passing.{formed, counts_few}
use Rattle.image_check.proofs.Descent.{at_form, at_memory, at_counts, at_room, at_body}
use Rattle.image_check.proofs.check.Goals as goal
use Rattle.image_check.proofs.check.Goals.{In_ok-form}

has_form : (c : In_ok-form) → Formed c.args.image
has_form c = record { form = sym c.in_ok-form.ensures }

pub memory-requires : goal.memory-requires
memory-requires c = (formed (has_form c)).1.1

pub counts-requires : goal.counts-requires
counts-requires c = has_form (goal.at.counts-requires c).In_ok-form

pub room-requires : goal.room-requires
room-requires c =
    let f = has_form (goal.at.room-requires c).In_ok-form in
    record { low = (formed f).1.0; high = (formed f).1.1; few = counts_few f (sym c.in_ok-counts.ensures) }

pub body-requires : goal.body-requires
body-requires c = record { formed = has_form (goal.at.body-requires c).In_ok-form; counts = sym c.in_ok-counts.ensures }

pub returns-in_err-form : goal.returns-in_err-form
returns-in_err-form c = ap said_of (handed_on _ c.from_residual.ensures.1) ∙ at_form c.args.image.headed _ _ _ _ c.in_err-form.ensures

pub returns-in_err-memory : goal.returns-in_err-memory
returns-in_err-memory c =
    ap said_of (handed_on _ c.from_residual-in_err-memory.ensures.1) ∙ at_memory c.args.image.headed _ _ _ (sym c.in_ok-form.ensures) _ c.in_err-memory.ensures

pub returns-in_err-counts : goal.returns-in_err-counts
returns-in_err-counts c =
    ap said_of (handed_on _ c.from_residual-in_err-counts.ensures.1) ∙ at_counts c.args.image.headed _ _ _ (sym c.in_ok-form.ensures) (sym c.in_ok-memory.ensures) _ c.in_err-counts.ensures

pub returns-in_err-room : goal.returns-in_err-room
returns-in_err-room c =
    ap said_of (handed_on _ c.from_residual-in_err-room.ensures.1)
    ∙ at_room c.args.image.headed _ _ _ (sym c.in_ok-form.ensures) (sym c.in_ok-memory.ensures) (sym c.in_ok-counts.ensures) _ c.in_err-room.ensures

pub returns : goal.returns
returns c =
    at_body c.args.image.headed _ _ _ (sym c.in_ok-form.ensures) (sym c.in_ok-memory.ensures) (sym c.in_ok-counts.ensures) _ (sym c.in_ok-room.ensures) c.body.ensures
