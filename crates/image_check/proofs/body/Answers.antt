-- `image_check::body` meets its contract: one rung of the ladder after the other. Assumes nothing.
use mathlib.Core.Path.{◌≡◌, refl, sym, ◌∙◌, ap, subst}
use Prim.Native.Nat.{◌+◌, ◌-◌, ◌≤◌}
use native.Mathlib.Omega.{arith}
use lib.ListN.{length, take, drop}
use borrow.Author.Tests.{not-true, not-false}
use Rattle.model.specs.Answers.{Said, said_of}
use Rattle.model.specs.Image.{sketch_in, regs_in, aux_in}
use Rattle.model.specs.declared.Sketch.{Sketch}
use Rattle.model.proofs.calls.Refusals.{refusal_some, handed_on}
use Rattle.model.proofs.calls.Rungs.{body_values, body_aux, body_spare, body_tally, body_right}
use Rattle.model.proofs.image.SaidIn.{low_in, aux_in_lem}
use Rattle.survey.specs.Survey.{Surveyed}
use Rattle.image_header.specs.Header.{record_in}
use Rattle.image_check.proofs.Passing.{formed, payload_here}
use Rattle.image_check.proofs.Surveying.{surveyable, surveyed, full}
use Rattle.image_check.proofs.body.Goals as goal
use Rattle.image_check.proofs.body.Goals.{After-bytes_of-end, After-survey-seen, In_ok-aux_fault}

-- the register bytes lie within the image
whole : (c : After-bytes_of-end) → 40 + c.bytes_of-end.result ≤ length c.args.image.bytes.now
whole c =
    omega (arith, c.bytes_of-end.ensures, payload_here c.requires)

-- what was told, of the record that the header says
told : (c : After-survey-seen) → let n = c.bytes_of-end.result in Surveyed (record_in c.args.image.header) (take (40 + n - 40) (drop 40 c.args.image.bytes.now)) c.survey-seen.result
told c =
    subst (λ (s : Sketch). Surveyed s (take (40 + c.bytes_of-end.result - 40) (drop 40 c.args.image.bytes.now)) c.survey-seen.result) c.from.ensures c.survey-seen.ensures

-- and of the image as the book reads it
seen : (c : After-survey-seen) → let l = c.args.image.bytes.now in Surveyed (sketch_in l) (regs_in l) c.survey-seen.result
seen c =
    surveyed c.requires _ c.bytes_of-end.ensures (told c)

-- what was said of the exception words
listed_ok : (c : In_ok-aux_fault) → (aux_in c.args.image.bytes.now).no ≡ 0
listed_ok c = ap (λ (f : Said). f.no) (sym c.in_ok-aux_fault.ensures)

pub bytes_of-end-requires : goal.bytes_of-end-requires
bytes_of-end-requires c = (formed c.requires.formed).1.1

pub overflow_add-end : goal.overflow_add-end
overflow_add-end c =
    omega (arith, whole c)

pub slice_bounds-survey-end : goal.slice_bounds-survey-end
slice_bounds-survey-end c =
    omega (arith, whole (goal.at.slice_bounds-survey-end c).After-bytes_of-end)

pub survey-seen-requires : goal.survey-seen-requires
survey-seen-requires c = rw c.from.ensures (surveyable c.requires _ c.bytes_of-end.ensures)

pub returns-then-not-seen : goal.returns-then-not-seen
returns-then-not-seen c =
    low_in _ (body_values _ (seen (goal.at.returns-then-not-seen c).After-survey-seen).values (not-true _ c.if-not-seen.true)) (omega arith)

pub aux_fault-requires : goal.aux_fault-requires
aux_fault-requires c =
    full c.requires _ c.bytes_of-end.ensures (told (goal.at.aux_fault-requires c).After-survey-seen)

pub returns-in_err-aux_fault : goal.returns-in_err-aux_fault
returns-in_err-aux_fault c =
    let off : (aux_in c.args.image.bytes.now).no ≡ 0 → ⊥ = λ z. refusal_some _ (ap (λ (f : Said). f.no) c.in_err-aux_fault.ensures ∙ z) in
    ap said_of (handed_on _ c.from_residual.ensures.1)
    ∙ c.in_err-aux_fault.ensures
    ∙ aux_in_lem _ (body_aux _ (seen (goal.at.returns-in_err-aux_fault c).After-survey-seen).values (not-false _ c.if-not-seen.false) _ refl off) off

pub returns-then-not-seen-2 : goal.returns-then-not-seen-2
returns-then-not-seen-2 c =
    let past = goal.at.returns-then-not-seen-2 c in
    let s = (seen past.After-survey-seen) in
    low_in _ (body_spare _ s.values (not-false _ c.if-not-seen.false) (listed_ok past.In_ok-aux_fault) s.spare (not-true _ c.if-not-seen-2.true)) (omega arith)

pub returns-then-not-seen-3 : goal.returns-then-not-seen-3
returns-then-not-seen-3 c =
    let past = goal.at.returns-then-not-seen-3 c in
    let s = (seen past.After-survey-seen) in
    low_in _ (body_tally _ s.values (not-false _ c.if-not-seen.false) (listed_ok past.In_ok-aux_fault) s.spare s.tally (not-false _ c.if-not-seen-2.false) (not-true _ c.if-not-seen-3.true)) (omega arith)

pub returns : goal.returns
returns c =
    let past = goal.at.returns c in
    let s = (seen past.After-survey-seen) in
    low_in _ (body_right _ s.values (not-false _ c.if-not-seen.false) (listed_ok past.In_ok-aux_fault) s.spare s.tally (not-false _ c.if-not-seen-2.false) (not-false _ c.if-not-seen-3.false)) (omega arith)
