-- `sketch::feed` meets its contract: the checks refuse, or the batch answers. Assumes nothing.
use mathlib.Core.Path.{sym, ap, ◌∙◌}
use Rattle.std.specs.Prelude.{Err}
use Rattle.model.specs.Calls.{fed_out}
use Rattle.model.specs.declared.Stopped.{Stopped}
use Rattle.model.proofs.calls.Refusals.{refusal_some}
use Rattle.model.proofs.calls.Has.{feed_is}
use Rattle.model.proofs.calls.Places.{check_place}
use Rattle.sketch_feed.proofs.Batch.{ready}
use Rattle.sketch.proofs.Outcomes.{feed_no}
use Rattle.sketch.proofs.feed.Goals as goal

pub returns-in-Err : goal.returns-in-Err
returns-in-Err c =
    let no = c.in-Err.ensures in
    let a = c.args in
    ap (λ (s : Stopped). fed_out (Err s) a.regs.now a.aux.now) c.refused.ensures ∙ feed_no _ _ _ _ _ no (check_place _ _ _ _ _ no) (refusal_some _)

pub feed-requires : goal.feed-requires
feed-requires c = ready _ _ _ _ (sym c.in-Ok.ensures) (λ i. (c.slice_known-1.given i).fits)

pub returns-in-Ok : goal.returns-in-Ok
returns-in-Ok c = c.feed.ensures ∙ sym (feed_is _ _ _ _ _ (sym c.in-Ok.ensures))
