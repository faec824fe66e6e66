-- `image_open::open` meets its contract: the header's own refusals first. Assumes nothing.
use mathlib.Core.Path.{◌∙◌, ap}
use lib.ListN.{length}
use Rattle.std.specs.Prelude.{Result, Err, ⊤}
use Rattle.model.specs.Calls.{made_out}
use Rattle.model.specs.declared.Sketch.{Sketch}
use Rattle.model.specs.declared.Refusal.{Refusal}
use Rattle.model.proofs.calls.Refusals.{refusal_some, handed_on}
use Rattle.model.proofs.calls.Rungs.{open_header}
use Rattle.model.proofs.calls.Places.{header_low}
use Rattle.model.proofs.image.SaidIn.{answer_in, open_refused}
use Rattle.image_open.proofs.open.Goals as goal

-- the header's number is the call's
pub returns-in_err-image : goal.returns-in_err-image
returns-in_err-image c =
    let a = c.args in
    let l = a.image.now in
    let no = c.in_err-image.ensures.answer in
    let is = open_header l (length a.regs.now) (length a.aux.now) (length a.scratch.now) _ no (refusal_some _) in
    ap (λ (r : Result Sketch Refusal). made_out r a.regs.now a.aux.now) (handed_on _ c.from_residual.ensures.1)
    ∙ open_refused l a.regs.now a.aux.now a.scratch.now (answer_in l {A = ⊤} (Err _) is (rw (← is, no) (header_low _))) (refusal_some _)

pub returns : goal.returns
returns c = rw c.in_ok-image.ensures.ok at c.load.ensures
