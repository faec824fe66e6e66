-- `sketch::merge` meets its contract: one law of the ladder for each return. Assumes nothing.
use mathlib.Core.Path.{◌≡◌, sym, ap, ◌∙◌}
use lib.ListN.{length}
use Rattle.model.specs.Registers.{joined}
use Rattle.model.specs.Sketch.{registers}
use mathlib.Core.List.{[]}
use Rattle.std.specs.Prelude.{Result}
use Rattle.model.specs.Calls.{kept_or}
use Rattle.model.specs.declared.Sketch.{Sketch}
use Rattle.model.specs.declared.Refusal.{Refusal}
use Rattle.model.proofs.calls.Refusals.{refusal_some, handed_on}
use Rattle.model.proofs.calls.Places.{check_place, eight_place}
use Rattle.sketch.proofs.Merging.{merge_target, merge_source, merge_finer, Accepted, joinable, after_cells, merge_ok}
use Rattle.sketch.proofs.merge.Goals as goal
use Rattle.sketch.proofs.merge.Goals.{Else-source-target, After-join}

accepted : (c : Else-source-target) → let a = c.args in Accepted a.target a.tregs.now a.source a.sregs.now a.saux.now
accepted c = record {
  target = sym c.in_ok-check_eight.ensures;
  source = sym c.in_ok-held.ensures.answer;
  coarser = c.if-source-target.false;
  tbytes = λ i. (c.slice_known-1.given i).fits;
  sbytes = λ i. (c.type_inv.sregs i).fits;
}

-- what was joined, of the source as it came
joins : (c : After-join) → let a = c.args in c.join.new.target ≡ joined (length a.tregs.now) a.tregs.now (registers a.source a.sregs.now a.saux.now)
joins c = let h = c.in_ok-held.ensures.ok in rw (h.sketch_is, h.regs_are, h.aux_are) at c.join.ensures

pub returns-in_err-check_eight : goal.returns-in_err-check_eight
returns-in_err-check_eight c =
    let no = c.in_err-check_eight.ensures in
    ap (λ (r : Result Sketch Refusal). kept_or c.args.target r c.args.tregs.now []) (handed_on _ c.from_residual.ensures.1)
    ∙ merge_target _ _ _ _ _ no (eight_place _ _ _ no) (refusal_some _)

pub returns-in_err-held : goal.returns-in_err-held
returns-in_err-held c =
    let no = c.in_err-held.ensures.answer in
    ap (λ (r : Result Sketch Refusal). kept_or c.args.target r c.args.tregs.now []) (handed_on _ c.from_residual-in_err-held.ensures.1)
    ∙ merge_source _ _ _ _ _ (sym c.in_ok-check_eight.ensures) no (check_place _ _ _ _ _ no) (refusal_some _)

pub returns-then-source-target : goal.returns-then-source-target
returns-then-source-target c = merge_finer _ _ _ _ _ (sym c.in_ok-check_eight.ensures) (sym c.in_ok-held.ensures.answer) c.if-source-target.true

pub join-requires : goal.join-requires
join-requires c = rw c.in_ok-held.ensures.ok.sketch_is (joinable (accepted (goal.at.join-requires c).Else-source-target))

pub count-left-requires : goal.count-left-requires
count-left-requires c =
    let past = goal.at.count-left-requires c in
    after_cells (accepted past.Else-source-target) (joins past.After-join)

pub returns : goal.returns
returns c =
    let past = goal.at.returns c in
    merge_ok (accepted past.Else-source-target) (joins past.After-join) c.count-left.ensures c.plain.ensures
