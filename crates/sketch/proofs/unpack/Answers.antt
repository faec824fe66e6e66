-- `sketch::unpack` meets its contract: the checks refuse, or the buffer is filled. Assumes nothing.
use mathlib.Core.Path.{sym, ap, ◌∙◌}
use borrow.Author.Tests.{eqb-true}
use Rattle.model.specs.Answers.{Answer, number_of}
use Rattle.model.specs.Calls.{unpacked_to}
use Rattle.model.proofs.calls.Refusals.{refusal_some, handed_on}
use Rattle.model.proofs.calls.Ladder.{check_says}
use Rattle.sketch.proofs.Outcomes.{unpack_no, unpack_ok}
use Rattle.sketch.proofs.unpack.Goals as goal

pub returns-in_err-held : goal.returns-in_err-held
returns-in_err-held c =
    ap (λ (a : Answer). unpacked_to (number_of a) c.args.out.now) (handed_on _ c.from_residual.ensures.1)
    ∙ unpack_no _ _ _ _ c.is_count-fits.ensures c.in_err-held.ensures.answer (refusal_some _)

pub unpack_good-requires : goal.unpack_good-requires
unpack_good-requires c =
    rw c.in_ok-held.ensures.ok.sketch_is (eqb-true _ _ (sym c.is_count-fits.ensures ∙ ((check_says _ _ _ _).0 (sym c.in_ok-held.ensures.answer)).1.0))

pub returns : goal.returns
returns c =
    let h = c.in_ok-held.ensures in
    unpack_ok _ _ _ _ c.is_count-fits.ensures (sym h.answer) (rw (h.ok.sketch_is, h.ok.regs_are, h.ok.aux_are) at c.unpack_good.ensures)
